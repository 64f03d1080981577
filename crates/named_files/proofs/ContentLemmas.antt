-- On the contents of the two files, and on what is kept of their store: the board comes first, and the other file after
-- it.
use Rattle.std.proofs.Common.{◌≡◌, ◌∙◌, ℕ, List, [], ◌∷◌, map, Option, None, Some, IfSome, refl, sym, ap, subst}
use Rattle.std.specs.Prelude.{Result, IsErrOf}
use Rattle.tool_io.specs.Causes.{HasRisenAt, NoneFalls}
use Rattle.tool_io.specs.Files.{then_names, HasPicked}
use Rattle.tool_io.specs.declared.outside.Shelf.{Ghosts as ShelfOf}
use Rattle.dev_card.specs.declared.desc.Desc.{Desc}
use Rattle.tool_frame.specs.declared.no_answer.NoAnswer.{NoAnswer}
use Rattle.tool_frame.specs.declared.no_answer.NoAnswer.TheVariants.{Read}
use Rattle.tool_frame.specs.Files.{file_named, AreRead, OfFile, OfFiles, NamesThis, KeepsShelf}
use Rattle.tool_frame.proofs.FileLemmas.{shelf_within, shelf_of_first, shelf_of_both}
use Rattle.named_files.specs.Boards.{HasBoard, ReadsBoard}
use Rattle.named_files.specs.Words.{FileNames, IsRequest}
use Rattle.named_files.specs.Contents.{Contents, contents_in, OfContents, OfAsked, AreFilesOf, NamesBoth, OfWords, HoldsBoard, IsReached, board_reached, file_reached, IsAskedAndReached}
use Rattle.named_files.proofs.WordLemmas.{one_request}

abbrev pub both : Option (List ℕ) → Option (List ℕ) → Contents
both board file = record { board = board; file = file }

both_read : (told : Option (List (List ℕ × List ℕ))) (named : FileNames) (board file : Option (List ℕ)) → AreRead told (Some named.board) board →
    AreRead told (Some named.file) file → IfSome told (λ files. contents_in files named ≡ both board file)
both_read None named board file b s = tt
both_read (Some files) named board file b s =
    ap (λ (x : Option (List ℕ)). both x (file_named files (Some named.file))) b.same ∙ ap (both board) s.same

-- what stands of all contents
pub of_any_contents : (told : Option (List (List ℕ × List ℕ))) (named : FileNames) {P : Contents → Type 0} → ((contents : Contents) → P contents) → OfContents told named P
of_any_contents None named f = record { contents = both None None; read = tt; holds = f (both None None) }
of_any_contents (Some files) named f = record { contents = contents_in files named; read = refl; holds = f (contents_in files named) }

-- the board was read, and it does not matter what else
pub of_board : (told : Option (List (List ℕ × List ℕ))) (named : FileNames) (board : Option (List ℕ)) {P : Contents → Type 0} → AreRead told (Some named.board) board →
    ((file : Option (List ℕ)) → P (both board file)) → OfContents told named P
of_board None named board b f = record { contents = both board None; read = tt; holds = f None }
of_board (Some files) named board b f = record {
  contents = both board (file_named files (Some named.file));
  read = both_read (Some files) named board (file_named files (Some named.file)) b (record { same = refl });
  holds = f (file_named files (Some named.file));
}

-- the board was read, and then the other file
pub of_both : (told : Option (List (List ℕ × List ℕ))) (named : FileNames) (board : Option (List ℕ)) {P : Option (List ℕ) → Type 0} {Q : Contents → Type 0} →
    AreRead told (Some named.board) board → OfFile told (Some named.file) P → ((file : Option (List ℕ)) → P file → Q (both board file)) → OfContents told named Q
of_both told named board b o f = record {
  contents = both board o.held;
  read = both_read told named board o.held b o.read;
  holds = f o.held o.holds;
}

-- these files are asked for, and no others
pub of_asked : (asks : FileNames → Type 0) → ((a b : FileNames) → asks a → asks b → a ≡ b) → (told : Option (List (List ℕ × List ℕ))) {named : FileNames} {P Q : Contents → Type 0} →
    asks named → OfContents told named P → ((contents : Contents) → P contents → Q contents) → OfAsked asks told Q
of_asked asks one told {named = named} is o f = record {
  contents = o.contents;
  read = λ other others. subst (λ (n : FileNames). IfSome told (λ files. contents_in files n ≡ o.contents)) (one named other is others) o.read;
  holds = f o.contents o.holds;
}

-- the words are this request
pub of_request : {key : List ℕ} (told : Option (List (List ℕ × List ℕ))) {words : List (List ℕ)} {named : FileNames} {P Q : Contents → Type 0} → IsRequest key words named →
    OfContents told named P → ((contents : Contents) → P contents → Q contents) → OfWords key told words Q
of_request {key = key} told {words = words} asks o f = of_asked (IsRequest key words) (one_request key words) told asks o f

-- no files are asked for
pub of_none_asked : (asks : FileNames → Type 0) (told : Option (List (List ℕ × List ℕ))) {Q : Contents → Type 0} → ((named : FileNames) → asks named → ⊥) →
    ((contents : Contents) → Q contents) → OfAsked asks told Q
of_none_asked asks told none f = record { contents = both None None; read = λ named is. absurd (none named is); holds = f (both None None) }

-- words that are no request
pub of_no_request : (key : List ℕ) (told : Option (List (List ℕ × List ℕ))) {words : List (List ℕ)} {Q : Contents → Type 0} → ((named : FileNames) → IsRequest key words named → ⊥) →
    ((contents : Contents) → Q contents) → OfWords key told words Q
of_no_request key told {words = words} none f = of_none_asked (IsRequest key words) told none f

pub of_words_as : {asks : FileNames → Type 0} {told : Option (List (List ℕ × List ℕ))} {P Q : Contents → Type 0} → ((contents : Contents) → P contents → Q contents) →
    OfAsked asks told P → OfAsked asks told Q
of_words_as f o = record { contents = o.contents; read = o.read; holds = f o.contents o.holds }

places_read : (told : Option (List (List ℕ × List ℕ))) (named : List (Option (List ℕ))) (names : FileNames) (contents : Contents) →
    named ≡ Some names.board ∷ Some names.file ∷ [] → IfSome told (λ files. contents_in files names ≡ contents) →
    IfSome told (λ files. map (file_named files) named ≡ contents.board ∷ contents.file ∷ [])
places_read None named names contents e same = tt
places_read (Some files) named names contents e same = ap (map (file_named files)) e ∙ ap (λ (c : Contents). c.board ∷ c.file ∷ []) same

-- the same by the places of the files
pub of_both_files : (asks : FileNames → Type 0) (told : Option (List (List ℕ × List ℕ))) {P : Contents → Type 0} {Q : List (Option (List ℕ)) → Type 0} →
    ((contents : Contents) → P contents → Q (contents.board ∷ contents.file ∷ [])) → OfAsked asks told P → OfFiles (NamesBoth asks) told Q
of_both_files asks told f o = record {
  contents = o.contents.board ∷ o.contents.file ∷ [];
  read = λ named n. places_read told named n.files o.contents n.both (o.read n.files n.asked);
  holds = f o.contents o.holds;
}

-- the board that was read is the one that the store holds
holds_board : (named : FileNames) (devices : List Desc) (told : Option (List (List ℕ × List ℕ))) → ReadsBoard told named.board devices → IfSome told (HoldsBoard named)
holds_board named devices None reads = tt
holds_board named devices (Some files) reads = record {
  devices = devices;
  board = subst (λ (h : Option (List ℕ)). HasBoard h devices) (sym (reads.read).same) reads.holds;
}

-- what is kept of the store if the board was read, and it is no board, or perhaps not read after a failure
module _ {S T R E : Type 0} {shelf : ShelfOf S} {before after : S} {q : Result T NoAnswer} (r : Result R E) where
  pub shelf_of_board : (named : FileNames) → HasPicked (shelf.picks before) named.board (shelf.picks after) r → shelf.told after ≡ shelf.told before →
      NoneFalls shelf.faults shelf.is_last before after → (IsErrOf q Read → HasRisenAt shelf.faults shelf.is_last named.board before after) →
      KeepsShelf shelf (AreFilesOf named) (IsReached (shelf.told before) named) before after q
  shelf_of_board named once keeps later read = shelf_of_first r (board_reached refl) once keeps later read

-- and if it is right, and then perhaps the other file was read
pub shelf_of_request : {S T : Type 0} {shelf : ShelfOf S} {before mid after : S} {q : Result T NoAnswer} (named : FileNames) {devices : List Desc} →
    ReadsBoard (shelf.told before) named.board devices → shelf.picks mid ≡ then_names (shelf.picks before) (named.board ∷ []) → shelf.told mid ≡ shelf.told before →
    NoneFalls shelf.faults shelf.is_last before mid → KeepsShelf shelf (NamesThis named.file) (λ read. read ≡ named.file) mid after q →
    KeepsShelf shelf (AreFilesOf named) (IsReached (shelf.told before) named) before after q
shelf_of_request {shelf = shelf} {before = before} named {devices = devices} reads once keeps later kept =
    shelf_of_both (file_reached refl (holds_board named devices (shelf.told before) reads)) once keeps later kept

-- the files of a request are those that are asked for
pub shelf_asked : {S T : Type 0} {shelf : ShelfOf S} {before after : S} {q : Result T NoAnswer} (asks : FileNames → Type 0) {told : Option (List (List ℕ × List ℕ))}
    {named : FileNames} → asks named → KeepsShelf shelf (AreFilesOf named) (IsReached told named) before after q →
    KeepsShelf shelf (NamesBoth asks) (IsAskedAndReached asks told) before after q
shelf_asked asks {named = named} is kept =
    shelf_within (λ others both. record { files = named; asked = is; both = both }) (λ path reached. record { named = named; asked = is; reached = reached }) kept
