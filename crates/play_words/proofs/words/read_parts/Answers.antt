use Rattle.std.proofs.Common.{◌≡◌, ◌∙◌, map, string_bytes, Global, List, [], ℕ, length, get_or, arith, subst, sym, ap}
use Rattle.std.specs.Option.{option_map}
use Rattle.std.proofs.lemmas.List.{length-map}
use Rattle.command_words.specs.KeyedWords.{names_in}
use Rattle.play_words.specs.Words.{HasMode}
use Rattle.play_words.specs.ReadParts.{values_of}
use Rattle.play_words.proofs.WordLemmas.{nothing_read, one_word_more, read_so_far, few_read, adds_nothing, word_is}
use Rattle.play_words.proofs.words.read_parts.Goals as goal

pub loop-place-init : goal.loop-place-init
loop-place-init c =
    let ws : List (List ℕ) = map (string_bytes {Z = Global}) c.args.words.now in
    let none = c.nothing-given.ensures in
    nothing_read ws _ (subst (HasMode ws) (sym none.mode) c.requires.mode)
    (ap (option_map (λ path. path.now)) none.board) (ap (option_map (λ path. path.now)) none.program)
    (ap (option_map (λ path. path.now)) none.code) none.action
    (ap (option_map (λ spelling. names_in spelling.now)) none.todo)
    (ap (option_map (λ spelling. names_in spelling.now)) none.skip)
    none.place none.turns none.pins none.report none.seed

pub loop-place-preserved : goal.loop-place-preserved
loop-place-preserved c =
    let ws : List (List ℕ) = map (string_bytes {Z = Global}) c.args.words.now in
    let place = c.loop-place.place in
    let word : c.as_str.result.now ≡ get_or ws place [] =
    c.as_str.ensures.value
    ∙ word_is (string_bytes {Z = Global}) c.args.words.now place c.index-words-place.result c.loop-place-test.true c.index-words-place.is in
    one_word_more ws place _ (values_of c.in-Some.next) (omega arith) c.loop-place.invariant (rw word at c.in-Some.ensures.some)

pub returns-in_default-clause-unread : goal.returns-in_default-clause-unread
returns-in_default-clause-unread c =
    let ws : List (List ℕ) = map (string_bytes {Z = Global}) c.args.words.now in
    let place = c.loop-place.place in
    let word : c.as_str.result.now ≡ get_or ws place [] =
    c.as_str.ensures.value
    ∙ word_is (string_bytes {Z = Global}) c.args.words.now place c.index-words-place.result c.loop-place-test.true c.index-words-place.is in
    adds_nothing ws place _ (omega arith) (omega (arith, length-map c.args.words.now (string_bytes {Z = Global}))) c.loop-place.invariant
    (rw word at c.in_default.ensures.none)

pub returns-in_default-clause-few : goal.returns-in_default-clause-few
returns-in_default-clause-few c = few_read c.loop-place.invariant

pub returns-clause-read : goal.returns-clause-read
returns-clause-read c =
    let some = c.requires.some in
    let at : c.loop-place.place ≡ length c.args.words.now = omega arith in
    read_so_far at c.loop-place.invariant

pub returns-clause-few_words : goal.returns-clause-few_words
returns-clause-few_words c =
    let some = c.requires.some in
    let few = few_read c.loop-place.invariant in
    omega (arith, few, c.loop-place-test.false)
