-- A session piece by piece, and what it comes to.
use Rattle.std.proofs.Common.{◌≡◌, ◌∙◌, ◌+◌, ◌-◌, ◌<◌, ◌≤◌, ◌==◌, ℕ, zero, suc, min, ltb, List, [], ◌++◌, length, take, drop}
use Rattle.std.proofs.Common.{Bool, true, false, cond, Option, None, Some, Result, Ok, Err, IfSome, refl, sym, ap, subst, arith, append_assoc, length-append}
use Rattle.std.specs.Prelude.{IsErr, IsErrAnd, IsSome}
use Rattle.std.proofs.Math.Seq.{take-append_seam, take-append-add}
use Rattle.std.proofs.Math.ListN.{drop_of_length-le}
use Rattle.std.proofs.lemmas.Bool.{false≢true}
use Rattle.std.proofs.lemmas.Bool.Decides.{nat_tests}
use Rattle.std.proofs.lemmas.List.{append-nil, length-take-le, length-drop}
use Rattle.std.proofs.lemmas.Option.{none-some, same_Some}
use Rattle.tool_io.specs.declared.lines.Lines.{Lines}
use Rattle.tool_io.specs.declared.outside.Sink.{Ghosts as SinkOf}
use Rattle.tool_io.specs.Bytes.{then_bytes, MovesFront}
use Rattle.tool_io.specs.Files.{Gives}
use Rattle.tool_io.specs.Lines.{gathered, sink_of, taken, IsWhole, IsOverSame, Puts, PutsFront, PutsBroken}
use Rattle.tool_io.proofs.PutLemmas.{puts_nothing, put_then, put_then_front, front_with, puts_end, front_end, all_written, front_written, puts_same, front_same, put_failed}
use Rattle.dev_card.specs.Card.{Card}
use Rattle.link_server.specs.declared.link.LinkState.{LinkState}
use Rattle.link_server.specs.declared.link.LinkState.TheVariants as states
use Rattle.link_server.specs.declared.link.Link.{Link}
use Rattle.link_server.specs.declared.link.Fed.{Fed}
use Rattle.link_server.specs.Runs.{LinkAt, LinkRun, new_link, link_run, is_open, HasFed}
use Rattle.link_server.proofs.Cuts.{end_joined, answers_joined, taken_joined}
use Rattle.link_server.proofs.FeedLemmas.{closed_after, closed_answers, closed_taken}
use Rattle.tool_frame.specs.declared.no_answer.NoAnswer.{NoAnswer}
use Rattle.tool_frame.specs.declared.no_answer.NoAnswer.TheVariants.{Read, Write, Memory}
use Rattle.tool_frame.specs.Frame.{KeepsCount}
use Rattle.link_tool.specs.declared.status.LinkStatus.{LinkStatus}
use Rattle.link_tool.specs.declared.status.LinkStatus.TheVariants.{Done, BadByte, TooLong}
use Rattle.link_tool.specs.declared.session.Session.{Session}
use Rattle.link_tool.specs.Sessions.{most_bytes, session_bytes, link_to, first_answers, AllGoOn, EndsWith, at_end, at_limit}
use Rattle.link_tool.specs.Pieces.{session_at, HasTaken, status_after, PutsOut, IsSession, HasServed}
use Rattle.link_tool.proofs.EndLemmas.{all_taken, open_end, quit_end, bad_end}

-- ---- one piece

-- what the buffer of answers has at its front
front_of_buffer : (answers buffer rest : List ℕ) (n : ℕ) → buffer ≡ answers ++ rest → n ≡ length answers → take n buffer ≡ answers
front_of_buffer answers buffer rest n e f = ap (take n) e ∙ ap (λ k. take k (answers ++ rest)) f ∙ take-append_seam answers rest

front_is : (at : LinkAt) (bytes old_buffer buffer : List ℕ) (now : Link) (told : Option (List Card)) (fed : Fed) → HasFed at bytes old_buffer now told buffer fed →
    take fed.answered buffer ≡ (link_run at bytes).answers
front_is at bytes old_buffer buffer now told fed f = front_of_buffer (link_run at bytes).answers buffer (drop fed.answered old_buffer) fed.answered f.answers f.answered

module _ {K : Type 0} {sink : SinkOf K} {old new : Session} {cs : List Card} {bytes old_buffer buffer : List ℕ} {told : Option (List Card)} {before : Lines K}
    {fed : Fed} (f : HasFed (session_at old cs) bytes old_buffer new.link told buffer fed) (count : new.taken ≡ old.taken + fed.taken) where
  -- its answers were put
  pub taken_all : {T E : Type 0} {mid after : Lines K} (x : T) → Puts sink before (take fed.answered buffer) mid → Puts sink mid [] after →
      HasTaken {E = E} sink old cs bytes new told before after (Ok x)
  taken_all x first last = record {
    link = f.link;
    leaves = f.board;
    count = count ∙ ap (λ k. old.taken + k) f.taken;
    put = puts_end (puts_same (front_is (session_at old cs) bytes old_buffer buffer new.link told fed f) first) last;
  }

  -- or a front of them
  pub taken_unput : {T E : Type 0} {after : Lines K} (r : Result T E) → IsErr r → PutsBroken sink before (take fed.answered buffer) after →
      HasTaken sink old cs bytes new told before after r
  taken_unput r is front = record {
    link = f.link;
    leaves = f.board;
    count = count ∙ ap (λ k. old.taken + k) f.taken;
    put = put_failed r is (front_same (front_is (session_at old cs) bytes old_buffer buffer new.link told fed f) front);
  }

  pub taken_unfinished : {T E : Type 0} {mid after : Lines K} (r : Result T E) → IsErr r → Puts sink before (take fed.answered buffer) mid → PutsBroken sink mid [] after →
      HasTaken sink old cs bytes new told before after r
  taken_unfinished r is put front = taken_unput r is (front_end put front)

-- the devices are still fitted
pub still_fitted : (o p : Option (List Card)) → IsSome o → ((cs : List Card) → o ≡ Some cs → (x : List Card) × (p ≡ Some x)) → IsSome p
still_fitted None p h f = absurd (false≢true h)
still_fitted (Some cs) p h f = subst (λ (o : Option (List Card)). IsSome o) (sym (f cs refl).1) refl

-- what holds of the board at some places, where there is one
pub of_board : {P : Type 0} (o : Option (List Card)) → IsSome o → ((cs : List Card) → o ≡ Some cs → P) → P
of_board None h f = absurd (false≢true h)
of_board (Some cs) h f = f cs refl

-- the session goes on
pub goes_on : (state : LinkState) (n : ℕ) (more : Bool) → status_after state n more ≡ None → (is_open state ≡ true) × (more ≡ false)
goes_on states.Quit n more e = absurd (none-some Done (sym e))
goes_on states.Bad n more e = absurd (none-some (BadByte n) (sym e))
goes_on states.Open n true e = absurd (none-some TooLong (sym e))
goes_on states.Open n false e = (refl, refl)

-- ---- fronts of a file

fronts : (most : ℕ) (xs ys : List ℕ) → length xs ≤ most → take most (xs ++ ys) ≡ xs ++ take (most - length xs) ys
fronts most xs ys le =
    let e : most ≡ length xs + (most - length xs) = omega (arith, le) in
    ap (λ k. take k (xs ++ ys)) e ∙ take-append-add xs ys (most - length xs)

take_none : (n : ℕ) → take {A = ℕ} n [] ≡ []
take_none zero = refl
take_none (suc n) = refl

all_in : (most : ℕ) (xs : List ℕ) → length xs ≤ most → take most xs ≡ xs
all_in most xs le = ap (take most) (sym (append-nil xs)) ∙ fronts most xs [] le ∙ ap (λ ys. xs ++ ys) (take_none (most - length xs)) ∙ append-nil xs

full_in : (most : ℕ) (xs ys : List ℕ) → length xs ≡ most → take most (xs ++ ys) ≡ xs
full_in most xs ys e = ap (λ k. take k (xs ++ ys)) (sym e) ∙ take-append_seam xs ys

-- ---- a session up to a place of its file

pub record IsServing {F K : Type 0} (board : List Card) (told : Option F) (first left : List ℕ) (sink : SinkOf K) (old now : Lines K) (session : Session)
    (cards : Option (List Card)) : Type 0 where
  pub so_far : List ℕ
  pub read : IfSome told (λ files. first ≡ so_far ++ left)
  pub within : length so_far ≤ most_bytes
  pub link : session.link ≡ (link_run (link_to board) so_far).end.link
  pub leaves : cards ≡ Some (link_run (link_to board) so_far).end.board
  pub count : session.taken ≡ (link_run (link_to board) so_far).taken
  pub puts : Puts sink old (first_answers board so_far) now

pub begins : {F K : Type 0} (board : List Card) (told : Option F) (left : List ℕ) (sink : SinkOf K) (lines : Lines K) (cards : Option (List Card)) → IsWhole lines →
    cards ≡ Some board → IsServing board told left left sink lines lines (record { link = new_link; taken = 0 }) cards
begins board told left sink lines cards whole e = record {
  so_far = [];
  read = same told;
  within = omega arith;
  link = refl;
  leaves = e;
  count = refl;
  puts = puts_nothing sink lines whole;
}
  where
    same : {F : Type 0} (told : Option F) → IfSome told (λ files. left ≡ [] ++ left)
    same None = tt
    same (Some files) = refl

module _ {F K : Type 0} {board : List Card} {told : Option F} {first : List ℕ} {sink : SinkOf K} {old now : Lines K} {session : Session} {cards : Option (List Card)} where
  -- n bytes were read, of which some are a front
  pub after_read : {left : List ℕ} (rest into : List ℕ) (n : ℕ) (front more : List ℕ) → IfSome told (λ files. Gives left rest n into) → take n into ≡ front ++ more →
      IsServing board told first left sink old now session cards → IsServing board told first (front ++ (more ++ rest)) sink old now session cards
  after_read {left = left} rest into n front more gives parts s = record {
    so_far = s.so_far;
    read = by told gives s.read;
    within = s.within;
    link = s.link;
    leaves = s.leaves;
    count = s.count;
    puts = s.puts;
  }
    where
      by : {F : Type 0} (told : Option F) → IfSome told (λ files. Gives left rest n into) → IfSome told (λ files. first ≡ s.so_far ++ left) →
          IfSome told (λ files. first ≡ s.so_far ++ (front ++ (more ++ rest)))
      by None g e = tt
      by (Some files) g e =
          e ∙ ap (λ xs. s.so_far ++ xs) (g.next ∙ ap (λ xs. xs ++ rest) parts ∙ append_assoc front more rest)

  -- the same of what is left
  pub with_left : {left other : List ℕ} → left ≡ other → IsServing board told first left sink old now session cards → IsServing board told first other sink old now session cards
  with_left e s = subst (λ (xs : List ℕ). IsServing board told first xs sink old now session cards) e s

  -- the file is at its end
  pub after_all : {left : List ℕ} (rest into : List ℕ) (n : ℕ) → n ≡ 0 → IfSome told (λ files. Gives left rest n into) →
      IsServing board told first left sink old now session cards → IsServing board told first [] sink old now session cards
  after_all {left = left} rest into n none gives s = record {
    so_far = s.so_far;
    read = by told gives s.read;
    within = s.within;
    link = s.link;
    leaves = s.leaves;
    count = s.count;
    puts = s.puts;
  }
    where
      by : {F : Type 0} (told : Option F) → IfSome told (λ files. Gives left rest n into) → IfSome told (λ files. first ≡ s.so_far ++ left) →
          IfSome told (λ files. first ≡ s.so_far ++ [])
      by None g e = tt
      by (Some files) g e = e ∙ ap (λ xs. s.so_far ++ xs) (g.only_end none)

  -- the link and the board are those of the run
  here : {left : List ℕ} (s : IsServing board told first left sink old now session cards) →
      session_at session (link_run (link_to board) s.so_far).end.board ≡ (link_run (link_to board) s.so_far).end
  here s = ap (λ (l : Link). record { link = l; board = (link_run (link_to board) s.so_far).end.board }) s.link

  -- as many bytes were read as the count says, while the session is open
  pub open_count : {left : List ℕ} (s : IsServing board told first left sink old now session cards) → is_open session.link.state ≡ true → session.taken ≡ length s.so_far
  open_count s open_now = s.count ∙ all_taken (link_to board) s.so_far refl (ap (λ (l : Link). is_open l.state) (sym s.link) ∙ open_now)

  -- ---- a piece was fed

  module _ {T E : Type 0} {new_lines : Lines K} {front more : List ℕ} {new : Session} {new_cards : Option (List Card)} where
    pub after_feed : (r : Result T E) (x : T) → r ≡ Ok x → is_open session.link.state ≡ true → session.taken + length front ≤ most_bytes →
        ((cs : List Card) → cards ≡ Some cs → HasTaken sink session cs front new new_cards now new_lines r) →
        IsServing board told first (front ++ more) sink old now session cards → IsServing board told first more sink old new_lines new new_cards
    after_feed r x ok open_now few f s =
        let at = (link_run (link_to board) s.so_far).end in
        let t : HasTaken {E = E} sink session at.board front new new_cards now new_lines (Ok x) =
        subst (λ (r : Result T E). HasTaken sink session at.board front new new_cards now new_lines r) ok (f at.board s.leaves) in
        record {
          so_far = s.so_far ++ front;
          read = by told s.read;
          within = omega (arith, few, open_count s open_now, length-append s.so_far front);
          link = t.link ∙ ap (λ a. (link_run a front).end.link) (here s) ∙ ap (λ (a : LinkAt). a.link) (sym (end_joined s.so_far front (link_to board)));
          leaves = t.leaves ∙ ap (λ a. Some (link_run a front).end.board) (here s) ∙ ap (λ (a : LinkAt). Some a.board) (sym (end_joined s.so_far front (link_to board)));
          count = t.count ∙ ap (λ k. k + (link_run (session_at session at.board) front).taken) s.count
              ∙ ap (λ a. (link_run (link_to board) s.so_far).taken + (link_run a front).taken) (here s) ∙ sym (taken_joined s.so_far front (link_to board));
          puts = puts_same
              (ap (λ a. first_answers board s.so_far ++ (link_run a front).answers) (here s) ∙ sym (answers_joined s.so_far front (link_to board)))
              (put_then s.puts t.put);
        }
      where
        by : {F : Type 0} (told : Option F) → IfSome told (λ files. first ≡ s.so_far ++ (front ++ more)) → IfSome told (λ files. first ≡ (s.so_far ++ front) ++ more)
        by None e = tt
        by (Some files) e = e ∙ sym (append_assoc s.so_far front more)

-- an open session counts what it was fed
pub taken_more : {K T E : Type 0} {sink : SinkOf K} {old new : Session} {cs : List Card} {front : List ℕ} {told : Option (List Card)} {before after : Lines K}
    {r : Result T E} → HasTaken sink old cs front new told before after r → is_open old.link.state ≡ true → is_open new.link.state ≡ true → new.taken ≡ old.taken + length front
taken_more {old = old} {cs = cs} {front = front} h first last =
    h.count ∙ ap (λ k. old.taken + k) (all_taken (session_at old cs) front first (ap (λ (l : Link). is_open l.state) (sym h.link) ∙ last))

-- nothing is after a piece that was fed whole
pub none_left : (n : ℕ) (xs rest : List ℕ) → length xs ≤ n → drop n xs ++ rest ≡ rest
none_left n xs rest le = ap (λ (ys : List ℕ). ys ++ rest) (drop_of_length-le xs le)

-- no byte was read
pub none_read : (n : ℕ) (into : List ℕ) (b : Bool) → n ≤ length into → b ≡ (length (take n into) == 0) → b ≡ true → n ≡ 0
none_read n into b le e t =
    let len : length (take n into) ≡ n = length-take-le n into le in
    let h : (length (take n into) == 0) ≡ true = sym e ∙ t in
    grind (arith, nat_tests)

-- how much of a piece is fed: what the session has room for, or all
module _ (taken most left room : ℕ) (piece : List ℕ) (is : room ≡ min left (length piece)) (left_is : left ≡ most - taken) (few : taken ≤ most) where
  fed_length : length (take room piece) ≡ room
  fed_length = length-take-le room piece (omega (arith, is))

  pub fits : taken + length (take room piece) ≤ most
  fits = let len = fed_length in omega (arith, len, is, left_is, few)

  -- there was more, so the session is full
  pub is_full : (now : ℕ) (rest : List ℕ) → now ≡ taken + length (take room piece) → ltb room (length piece) ≡ true → (now ≡ most) × (0 < length (drop room piece ++ rest))
  is_full now rest count more =
      let len = fed_length in
      let lt : room < length piece = grind (arith, nat_tests) in
      (omega (arith, len, is, left_is, few, count, lt), omega (arith, lt, length-append (drop room piece) rest, length-drop room piece))

  pub fed_whole : ltb room (length piece) ≡ false → length piece ≤ room
  fed_whole none = grind (arith, nat_tests)

  -- there was no more, and so some
  pub is_fewer : (now : ℕ) (b : Bool) → now ≡ taken + length (take room piece) → ltb room (length piece) ≡ false → b ≡ (length piece == 0) → b ≡ false → most - now < most - taken
  is_fewer now b count none e f =
      let len = fed_length in
      let le : length piece ≤ room = fed_whole none in
      let test : (length piece == 0) ≡ false = sym e ∙ f in
      let some : 0 < length piece = grind (arith, nat_tests) in
      omega (arith, len, is, left_is, few, count, le, some)

-- ---- how it stops

-- what a session comes to, of which the answers are put
abbrev pub Serves : {F K : Type 0} → Option F → List ℕ → List ℕ → List Card → SinkOf K → Lines K → Lines K → Option (List Card) → Result LinkStatus NoAnswer → Type 0
Serves told first after board sink old new cards r = HasServed told first after board (λ text. PutsOut sink old text new) (λ text. PutsFront sink old text new) cards r

module _ {F K : Type 0} {board : List Card} {told : Option F} {first left : List ℕ} {sink : SinkOf K} {old now : Lines K} {session : Session} {cards : Option (List Card)}
    (s : IsServing board told first left sink old now session cards) (empty : gathered now ≡ []) where
  -- the session of the whole file goes on from here
  abbrev bytes : List ℕ
  bytes = s.so_far ++ left

  abbrev rest : List ℕ
  rest = take (most_bytes - length s.so_far) left

  cut : session_bytes bytes ≡ s.so_far ++ rest
  cut = fronts most_bytes s.so_far left s.within

  -- a front was read, and no more can be
  pub stop_read : {after : List ℕ} {told_cards : Option (List Card)} → after ≡ left → is_open session.link.state ≡ true → Serves told first after board sink old now told_cards (Err Read)
  stop_read {after = after} unread open_now =
      let same : session_bytes s.so_far ≡ s.so_far = all_in most_bytes s.so_far s.within in
      record {
        bytes = bytes;
        read = s.read;
        does = record {
          front = s.so_far;
          read = record {
            others = left;
            parts = refl;
            unread = told_so told;
            within = s.within;
            goes_on = subst (λ (xs : List ℕ). AllGoOn xs) same (open_end board s.so_far
                (ap (λ xs. is_open (link_run (link_to board) xs).end.link.state) same ∙ ap (λ (l : Link). is_open l.state) (sym s.link) ∙ open_now));
          };
          wrote = record { puts = s.puts; empty = empty };
        };
      }
    where
      told_so : {F : Type 0} (told : Option F) → IfSome told (λ files. after ≡ left)
      told_so None = tt
      told_so (Some files) = unread

  -- a session that is not open is over
  over : is_open session.link.state ≡ false → (link_run (link_to board) (session_bytes bytes)) ≡ link_run (link_to board) s.so_far
  over closed =
      let at = (link_run (link_to board) s.so_far).end in
      let shut : is_open at.link.state ≡ false = ap (λ (l : Link). is_open l.state) (sym s.link) ∙ closed in
      ap (link_run (link_to board)) cut
      ∙ ap (λ (a : LinkAt). record { end = a; answers = first_answers board (s.so_far ++ rest); taken = (link_run (link_to board) (s.so_far ++ rest)).taken })
      (end_joined s.so_far rest (link_to board) ∙ closed_after at rest shut)
      ∙ ap (λ (xs : List ℕ). record { end = at; answers = xs; taken = (link_run (link_to board) (s.so_far ++ rest)).taken })
      (answers_joined s.so_far rest (link_to board) ∙ ap (λ (xs : List ℕ). first_answers board s.so_far ++ xs) (closed_answers at rest shut) ∙ append-nil (first_answers board s.so_far))
      ∙ ap (λ k. record { end = at; answers = first_answers board s.so_far; taken = k })
      (taken_joined s.so_far rest (link_to board) ∙ ap (λ k. (link_run (link_to board) s.so_far).taken + k) (closed_taken at rest shut) ∙ add_none (link_run (link_to board) s.so_far).taken)
    where
      add_none : (n : ℕ) → n + 0 ≡ n
      add_none n = omega arith

  closed_served : {after : List ℕ} (status : LinkStatus) → is_open session.link.state ≡ false → EndsWith bytes status → Serves told first after board sink old now cards (Ok status)
  closed_served status closed ends = record {
    bytes = bytes;
    read = s.read;
    does = record {
      wrote = record { puts = puts_same (ap (λ (r : LinkRun). r.answers) (sym (over closed))) s.puts; empty = empty };
      leaves = s.leaves ∙ ap (λ (r : LinkRun). Some r.end.board) (sym (over closed));
      ends = ends;
    };
  }

  stop_quit : {after : List ℕ} → session.link.state ≡ states.Quit → Serves told first after board sink old now cards (Ok Done)
  stop_quit e =
      let closed : is_open session.link.state ≡ false = ap is_open e in
      closed_served Done closed (quit_end board bytes (ap (λ (r : LinkRun). r.end.link.state) (over closed) ∙ ap (λ (l : Link). l.state) (sym s.link) ∙ e))

  stop_bad : {after : List ℕ} → session.link.state ≡ states.Bad → Serves told first after board sink old now cards (Ok (BadByte session.taken))
  stop_bad e =
      let closed : is_open session.link.state ≡ false = ap is_open e in
      let at_taken : (link_run (link_to board) (session_bytes bytes)).taken ≡ session.taken = ap (λ (r : LinkRun). r.taken) (over closed) ∙ sym s.count in
      closed_served (BadByte session.taken) closed
      (subst (λ n. EndsWith bytes (BadByte n)) at_taken
      (bad_end board bytes (ap (λ (r : LinkRun). r.end.link.state) (over closed) ∙ ap (λ (l : Link). l.state) (sym s.link) ∙ e)))

  -- what was read is the session, which is open
  open_served : {after : List ℕ} (all : List ℕ) (status : LinkStatus) → IfSome told (λ files. first ≡ all) → session_bytes all ≡ s.so_far → is_open session.link.state ≡ true →
      ((list_all_go_on : is_open (link_run (link_to board) (session_bytes all)).end.link.state ≡ true) → EndsWith all status) → Serves told first after board sink old now cards (Ok status)
  open_served all status read same open_now ends = record {
    bytes = all;
    read = read;
    does = record {
      wrote = record { puts = puts_same (ap (first_answers board) (sym same)) s.puts; empty = empty };
      leaves = s.leaves ∙ ap (λ xs. Some (link_run (link_to board) xs).end.board) (sym same);
      ends = ends (ap (λ xs. is_open (link_run (link_to board) xs).end.link.state) same ∙ ap (λ (l : Link). is_open l.state) (sym s.link) ∙ open_now);
    };
  }

  stop_long : {after : List ℕ} → is_open session.link.state ≡ true → session.taken ≡ most_bytes → 0 < length left → Serves told first after board sink old now cards (Ok TooLong)
  stop_long open_now full some =
      let n : session.taken ≡ length s.so_far = open_count s open_now in
      open_served bytes TooLong s.read (full_in most_bytes s.so_far left (sym n ∙ full)) open_now
      (λ e. at_limit (omega (arith, n, full, some, length-append s.so_far left)) (open_end board bytes e))

  -- by the status that was told
  pub stops : {after : List ℕ} (more : Bool) (status : LinkStatus) → (more ≡ true → is_open session.link.state ≡ true → (session.taken ≡ most_bytes) × (0 < length left)) →
      status_after session.link.state session.taken more ≡ Some status → Serves told first after board sink old now cards (Ok status)
  stops {after = after} more status long e = by session.link.state refl
    where
      is : (state : LinkState) → session.link.state ≡ state → status_after state session.taken more ≡ Some status
      is state same = ap (λ t. status_after t session.taken more) (sym same) ∙ e

      by_more : (m : Bool) → more ≡ m → session.link.state ≡ states.Open → cond m (Some TooLong) None ≡ Some status → Serves told first after board sink old now cards (Ok status)
      by_more true m same f =
          let fact = long m (ap is_open same) in
          subst (λ (t : LinkStatus). Serves told first after board sink old now cards (Ok t)) (same_Some TooLong status f) (stop_long (ap is_open same) fact.0 fact.1)
      by_more false m same f = absurd (none-some status f)

      by : (state : LinkState) → session.link.state ≡ state → Serves told first after board sink old now cards (Ok status)
      by states.Quit same = subst (λ (t : LinkStatus). Serves told first after board sink old now cards (Ok t)) (same_Some Done status (is states.Quit same)) (stop_quit same)
      by states.Bad same = subst (λ (t : LinkStatus). Serves told first after board sink old now cards (Ok t)) (same_Some (BadByte session.taken) status (is states.Bad same)) (stop_bad same)
      by states.Open same = by_more more refl same (is states.Open same)

-- the file was read to its end
pub stop_end : {F K : Type 0} {board : List Card} {told : Option F} {first after : List ℕ} {sink : SinkOf K} {old now : Lines K} {session : Session} {cards : Option (List Card)} →
    IsServing board told first [] sink old now session cards → gathered now ≡ [] → is_open session.link.state ≡ true → Serves told first after board sink old now cards (Ok Done)
stop_end {board = board} {told = told} {first = first} s empty open_now =
    let same : session_bytes s.so_far ≡ s.so_far = all_in most_bytes s.so_far s.within in
    open_served s empty s.so_far Done (by told s.read) same open_now (λ e. at_end s.within (open_end board s.so_far e))
  where
    by : {F : Type 0} (told : Option F) → IfSome told (λ files. first ≡ s.so_far ++ []) → IfSome told (λ files. first ≡ s.so_far)
    by None e = tt
    by (Some files) e = e ∙ append-nil s.so_far

-- a piece was fed, and its answers could not be written
pub stop_write : {F K T E : Type 0} {board : List Card} {told : Option F} {first front after : List ℕ} {sink : SinkOf K} {old now new_lines : Lines K} {session new : Session}
    {cards new_cards told_cards : Option (List Card)} (more : List ℕ) (r : Result T E) (x : E) → r ≡ Err x →
    is_open session.link.state ≡ true → session.taken + length front ≤ most_bytes →
    ((cs : List Card) → cards ≡ Some cs → HasTaken sink session cs front new new_cards now new_lines r) →
    IsServing board told first (front ++ more) sink old now session cards → Serves told first after board sink old new_lines told_cards (Err Write)
stop_write {T = T} {E = E} {board = board} {front = front} {sink = sink} {now = now} {new_lines = new_lines} {session = session} {new = new} {new_cards = new_cards}
    more r x err open_now few f s =
    let at = (link_run (link_to board) s.so_far).end in
    let t : HasTaken {T = T} sink session at.board front new new_cards now new_lines (Err x) =
    subst (λ (r : Result T E). HasTaken sink session at.board front new new_cards now new_lines r) err (f at.board s.leaves) in
    let all : List ℕ = s.so_far ++ front in
    let few_all : length all ≤ most_bytes = omega (arith, few, open_count s open_now, length-append s.so_far front) in
    let cut_all : session_bytes (all ++ more) ≡ all ++ take (most_bytes - length all) more = fronts most_bytes all more few_all in
    let others : List ℕ = (link_run (link_run (link_to board) all).end (take (most_bytes - length all) more)).answers in
    record {
      bytes = s.so_far ++ (front ++ more);
      read = s.read;
      does = (front_same
          (ap (λ a. (first_answers board s.so_far ++ (link_run a front).answers) ++ others) (here s)
          ∙ ap (λ xs. xs ++ others) (sym (answers_joined s.so_far front (link_to board)))
          ∙ sym (ap (first_answers board) (ap session_bytes (sym (append_assoc s.so_far front more)) ∙ cut_all)
          ∙ answers_joined all (take (most_bytes - length all) more) (link_to board)))
          (front_with others (put_then_front s.puts t.put))).put;
    }

-- a write fault at the exit of a `?`
pub failed_as : {F : Type 0} {told : Option F} {left after : List ℕ} {board : List Card} {written front : List ℕ → Type 0} {now : Option (List Card)}
    (r : Result LinkStatus NoAnswer) → IsErrAnd r (λ e. e ≡ Write) → HasServed told left after board written front now (Err Write) → HasServed told left after board written front now r
failed_as (Ok status) is h = absurd is
failed_as (Err e) is h = rw is h

-- The lines are gone, and what they wrote is what their sink has taken.
module _ {F K : Type 0} {told : Option F} {left rest : List ℕ} {board : List Card} {sink : SinkOf K} {old new : Lines K} {now : Option (List Card)} where
  pub from_lines : {before after : Option (List ℕ)} (r : Result LinkStatus NoAnswer) → gathered old ≡ [] → before ≡ taken sink old → after ≡ taken sink new →
      Serves told left rest board sink old new now r → HasServed told left rest board (λ text. after ≡ then_bytes before text) (λ text. MovesFront before text after) now r
  from_lines {before = before} {after = after} r empty e f h = record { bytes = h.bytes; read = h.read; does = by r h.does }
    where
      by : (r : Result LinkStatus NoAnswer) → IsSession told rest board h.bytes (λ text. PutsOut sink old text new) (λ text. PutsFront sink old text new) now r →
          IsSession told rest board h.bytes (λ text. after ≡ then_bytes before text) (λ text. MovesFront before text after) now r
      by (Ok status) d = record { wrote = rw (e, f) (all_written empty d.wrote.puts d.wrote.empty); leaves = d.leaves; ends = d.ends }
      by (Err Read) d = record { front = d.front; read = d.read; wrote = rw (e, f) (all_written empty d.wrote.puts d.wrote.empty) }
      by (Err Write) d = rw (e, f) (front_written empty d)
      by (Err Memory) d = absurd d

  -- they stood over that sink to the end
  pub served_over : (r : Result LinkStatus NoAnswer) → Serves told left rest board sink old new now r → IsOverSame old new
  served_over (Ok status) h = h.does.wrote.puts.same_sink
  served_over (Err Read) h = h.does.wrote.puts.same_sink
  served_over (Err Write) h = h.does.same_sink
  served_over (Err Memory) h = absurd h.does

  -- what its count has kept
  pub served_count : (before after : K) (r : Result LinkStatus NoAnswer) → before ≡ sink_of old → after ≡ sink_of new → Serves told left rest board sink old new now r →
      KeepsCount sink before after r
  served_count before after r e f h = rw (e, f) (by r h.does)
    where
      by : (r : Result LinkStatus NoAnswer) → IsSession told rest board h.bytes (λ text. PutsOut sink old text new) (λ text. PutsFront sink old text new) now r →
          KeepsCount sink (sink_of old) (sink_of new) r
      by (Ok status) d = record { later = d.wrote.puts.kept; write = λ is. absurd cc }
      by (Err Read) d = record { later = d.wrote.puts.kept; write = λ is. absurd cc }
      by (Err Write) d = record { later = d.kept; write = λ is. d.rose }
      by (Err Memory) d = absurd d
