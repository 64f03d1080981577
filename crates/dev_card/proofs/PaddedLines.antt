-- A padded scan of a board is the scan of a run of its neighbours alone, as far as its length allows.
use Rattle.std.proofs.Common.{◌≡◌, ◌≤◌, ◌+◌, ◌-◌, ℕ, suc, zero, Bool, true, List, [], ◌∷◌, ◌++◌, length, take, drop, replicate, refl, sym, ap, subst, ◌∙◌, append_assoc, arith}
use Rattle.std.proofs.lemmas.List.{length-append, length-drop, length-replicate, take-append-le, drop-append-le, drop-take}
use Rattle.std.proofs.Math.Seq.{drop-append-add, drop-append_seam, take-append_seam}
use Rattle.dev_card.specs.Card.{Card}
use Rattle.dev_card.specs.Line.{list_of, with_list, line_of, cut_back, shifted_out, left_in}
use Rattle.dev_card.specs.Padding.{Paddings, program_bits, between_ones, padded}
use Rattle.dev_card.specs.PaddedScan.{AreCardsFrom, IsSameScan}

-- lists alone
zero_plus : (a : ℕ) → a ≡ 0 + a
zero_plus a = omega arith

pub suc_plus : (a b : ℕ) → suc (a + b) ≡ suc a + b
suc_plus a b = omega arith

drop_of_none : (a b : ℕ) → drop a (drop {A = Bool} b []) ≡ drop (b + a) []
drop_of_none zero zero = refl
drop_of_none (suc a) zero = ap (λ k. drop {A = Bool} k []) (zero_plus (suc a))
drop_of_none zero (suc b) = ap (λ k. drop {A = Bool} k []) (suc_plus b 0)
drop_of_none (suc a) (suc b) = ap (λ k. drop {A = Bool} k []) (suc_plus b (suc a))

drop_drop : (a b : ℕ) (xs : List Bool) → drop a (drop b xs) ≡ drop (b + a) xs
drop_drop a zero xs = ap (λ k. drop k xs) (zero_plus a)
drop_drop a (suc b) [] = drop_of_none a (suc b)
drop_drop a (suc b) (x ∷ xs) = drop_drop a b xs ∙ ap (λ k. drop k (x ∷ xs)) (suc_plus b a)

take_take : (a b : ℕ) (xs : List Bool) → take a (take (a + b) xs) ≡ take a xs
take_take zero b xs = refl
take_take (suc a) b [] = ap (λ k. take (suc a) (take {A = Bool} k [])) (sym (suc_plus a b))
take_take (suc a) b (x ∷ xs) = ap (λ k. take (suc a) (take k (x ∷ xs))) (sym (suc_plus a b)) ∙ ap (λ t. x ∷ t) (take_take a b xs)

take_exact : (xs ys : List Bool) (n : ℕ) → n ≡ length xs → take n (xs ++ ys) ≡ xs
take_exact xs ys n e = ap (λ k. take k (xs ++ ys)) e ∙ take-append_seam xs ys

drop_exact : (xs ys : List Bool) (n : ℕ) → n ≡ length xs → drop n (xs ++ ys) ≡ ys
drop_exact xs ys n e = ap (λ k. drop k (xs ++ ys)) e ∙ drop-append_seam xs ys

-- the shifting of m bits between paddings into a line of three parts
module _ (F R B p M q : List Bool) (same_front : length p ≡ length F) (same_back : length q ≡ length B) where
  shifted_bits : List Bool
  shifted_bits = p ++ (M ++ q)

  count : length shifted_bits ≡ length F + (length M + length B)
  unfolding shifted_bits
  count = omega (arith, length-append p (M ++ q), length-append M q, same_front, same_back)

  -- long enough: what stays is the bits from the surplus on
  surplus : (d : ℕ) → length M ≡ length R + d → left_in (F ++ (R ++ B)) shifted_bits ≡ drop d shifted_bits
  unfolding shifted_bits
  surplus d e =
      let L : List Bool = F ++ (R ++ B) in
      let n : length (p ++ (M ++ q)) ≡ length L + d = omega (arith, length-append F (R ++ B), length-append R B, length-append p (M ++ q), length-append M q, same_front, same_back, e) in
      ap (λ k. drop k (L ++ (p ++ (M ++ q)))) n ∙ drop-append-add L (p ++ (M ++ q)) d

  middle : (d : ℕ) → length M ≡ length R + d → drop (length F) (drop d shifted_bits) ≡ drop d M ++ q
  unfolding shifted_bits
  middle d e =
      let n : d + length F ≡ length p + d = omega (arith, same_front) in
      drop_drop (length F) d (p ++ (M ++ q)) ∙ ap (λ k. drop k (p ++ (M ++ q))) n ∙ drop-append-add p (M ++ q) d ∙ drop-append-le d M q (omega (arith, e))

  -- short enough: what comes out at the program's places is the front of the middle part
  out_of_middle : length M ≤ length R → take (length M) (drop (length F) (shifted_out (F ++ (R ++ B)) shifted_bits)) ≡ take (length M) R
  unfolding shifted_bits
  out_of_middle h =
      let L : List Bool = F ++ (R ++ B) in
      let bits : List Bool = p ++ (M ++ q) in
      let k : ℕ = length M + length B in
      let n : length bits ≡ length F + k = omega (arith, length-append p (M ++ q), length-append M q, same_front, same_back) in
      let Y : List Bool = (R ++ B) ++ bits in
      let cut : drop (length F) (L ++ bits) ≡ Y = ap (drop (length F)) (append_assoc F (R ++ B) bits) ∙ drop-append_seam F Y in
      ap (λ j. take (length M) (drop (length F) (take j (L ++ bits)))) n
      ∙ ap (take (length M)) (drop-take (length F) k (L ++ bits) ∙ ap (take k) cut)
      ∙ take_take (length M) (length B) Y
      ∙ take-append-le (length M) (R ++ B) bits (omega (arith, length-append R B, h))
      ∙ take-append-le (length M) R B h

take_own_length : (n : ℕ) (xs : List Bool) → take n (take n xs) ≡ take n xs
take_own_length zero xs = refl
take_own_length (suc n) [] = refl
take_own_length (suc n) (x ∷ xs) = ap (λ t. x ∷ t) (take_own_length n xs)

-- the part of the data, read out of the program's part
data_part : (P a n m : ℕ) (out : List Bool) → a + n ≤ m → take n (drop (P + a) out) ≡ take n (drop a (take m (drop P out)))
data_part P a n m out h =
    let k : ℕ = m - (a + n) in
    let e : m ≡ a + (n + k) = omega arith in
    sym (ap (λ j. take n (drop a (take j (drop P out)))) e ∙ ap (take n) (drop-take a (n + k) (drop P out)) ∙ take_take n k (drop a (drop P out)) ∙ ap (take n) (drop_drop a P out))

module _ (ir : Bool) where
  line_of_both : (xs ys : List Card) → line_of ir (xs ++ ys) ≡ line_of ir xs ++ line_of ir ys
  line_of_both [] ys = refl
  line_of_both (x ∷ xs) ys = ap (λ t. list_of ir x ++ t) (line_of_both xs ys) ∙ sym (append_assoc (list_of ir x) (line_of ir xs) (line_of ir ys))

  cut_both : (xs ys : List Card) (line : List Bool) → cut_back ir (xs ++ ys) line ≡ cut_back ir xs line ++ cut_back ir ys (drop (length (line_of ir xs)) line)
  cut_both [] ys line = refl
  cut_both (x ∷ xs) ys line =
      let n : ℕ = length (list_of ir x) in
      ap (λ t. with_list ir x (take n line) ∷ t) (cut_both xs ys (drop n line)
      ∙ ap (λ t. cut_back ir xs (drop n line) ++ cut_back ir ys t) (drop_drop (length (line_of ir xs)) n line ∙ ap (λ k. drop k line) (sym (length-append (list_of ir x) (line_of ir xs)))))

  -- what lies after a line is not read
  cut_front : (cs : List Card) (xs ys : List Bool) → length (line_of ir cs) ≤ length xs → cut_back ir cs (xs ++ ys) ≡ cut_back ir cs xs
  cut_front [] xs ys h = refl
  cut_front (c ∷ cs) xs ys h =
      let n : ℕ = length (list_of ir c) in
      let s : length (list_of ir c ++ line_of ir cs) ≡ n + length (line_of ir cs) = length-append (list_of ir c) (line_of ir cs) in
      let k : n ≤ length xs = omega (arith, s, h) in
      let r : length (line_of ir cs) ≤ length (drop n xs) = omega (arith, s, h, length-drop n xs) in
      ap (λ t. with_list ir c t ∷ cut_back ir cs (drop n (xs ++ ys))) (take-append-le n xs ys k)
      ∙ ap (λ t. with_list ir c (take n xs) ∷ t) (ap (cut_back ir cs) (drop-append-le n xs ys k) ∙ cut_front cs (drop n xs) ys r)

  three : (xs ys zs : List Card) → line_of ir (xs ++ (ys ++ zs)) ≡ line_of ir xs ++ (line_of ir ys ++ line_of ir zs)
  three xs ys zs = line_of_both xs (ys ++ zs) ∙ ap (λ t. line_of ir xs ++ t) (line_of_both ys zs)

  -- a scan between ones that has exactly the length of the run
  exactly : (before run after : List Card) (P Q : ℕ) (M : List Bool) → P ≡ length (line_of ir before) → Q ≡ length (line_of ir after) → length M ≡ length (line_of ir run)
      → cut_back ir (before ++ (run ++ after)) (between_ones P M Q) ≡ cut_back ir before (replicate P true) ++ (cut_back ir run M ++ cut_back ir after (replicate Q true))
  exactly before run after P Q M a b e =
      let p : List Bool = replicate P true in
      let q : List Bool = replicate Q true in
      let np : length p ≡ P = length-replicate P true in
      let d1 : drop (length (line_of ir before)) (p ++ (M ++ q)) ≡ M ++ q = drop_exact p (M ++ q) (length (line_of ir before)) (omega (arith, np, a)) in
      let d2 : drop (length (line_of ir run)) (M ++ q) ≡ q = drop_exact M q (length (line_of ir run)) (sym e) in
      cut_both before (run ++ after) (p ++ (M ++ q))
      ∙ ap (λ t. t ++ cut_back ir (run ++ after) (drop (length (line_of ir before)) (p ++ (M ++ q)))) (cut_front before p (M ++ q) (omega (arith, np, a)))
      ∙ ap (λ t. cut_back ir before p ++ t) (ap (cut_back ir (run ++ after)) d1 ∙ cut_both run after (M ++ q)
      ∙ ap (λ t. t ++ cut_back ir after (drop (length (line_of ir run)) (M ++ q))) (cut_front run M q (omega (arith, e)))
      ∙ ap (λ t. cut_back ir run M ++ cut_back ir after t) d2)

  cut_length : (cs : List Card) (line : List Bool) → length (cut_back ir cs line) ≡ length cs
  cut_length [] line = refl
  cut_length (c ∷ cs) line = ap suc (cut_length cs (drop (length (list_of ir c)) line))

  -- long enough
  long_enough : (before run after : List Card) (p M q : List Bool) (d : ℕ) → length p ≡ length (line_of ir before) → length q ≡ length (line_of ir after) → length M ≡ length (line_of ir run) + d
      → AreCardsFrom (length before) (cut_back ir run (drop d M)) (cut_back ir (before ++ (run ++ after)) (left_in (line_of ir (before ++ (run ++ after))) (p ++ (M ++ q))))
  unfolding shifted_bits
  long_enough before run after p M q d a b e =
      let F : List Bool = line_of ir before in
      let R : List Bool = line_of ir run in
      let B : List Bool = line_of ir after in
      let x : List Bool = drop d (p ++ (M ++ q)) in
      let left : List Card = cut_back ir before x in
      let right : List Card = cut_back ir after (drop (length R) (drop d M ++ q)) in
      let stays : left_in (line_of ir (before ++ (run ++ after))) (p ++ (M ++ q)) ≡ x = ap (λ L. left_in L (p ++ (M ++ q))) (three before run after) ∙ surplus F R B p M q a b d e in
      let mid : drop (length F) x ≡ drop d M ++ q = middle F R B p M q a b d e in
      record {
        front = left;
        back = right;
        whole = ap (cut_back ir (before ++ (run ++ after))) stays ∙ cut_both before (run ++ after) x
            ∙ ap (λ t. left ++ t) (ap (cut_back ir (run ++ after)) mid ∙ cut_both run after (drop d M ++ q)
            ∙ ap (λ t. t ++ right) (cut_front run (drop d M) q (omega (arith, length-drop d M, e))));
        place_is = cut_length before x;
      }

pub padded_scan_is_same : (ir : Bool) (before run after : List Card) (p : Paddings) (bits : List Bool) → p.base_pre ≡ length (line_of ir before)
    → p.base_post ≡ length (line_of ir after) → IsSameScan ir before run after p bits
unfolding shifted_bits
padded_scan_is_same ir before run after p bits a b =
    let P : List Bool = replicate p.base_pre true in
    let Q : List Bool = replicate p.base_post true in
    let M : List Bool = program_bits p bits in
    let F : List Bool = line_of ir before in
    let R : List Bool = line_of ir run in
    let B : List Bool = line_of ir after in
    let nP : length P ≡ length F = length-replicate p.base_pre true ∙ a in
    let nQ : length Q ≡ length B = length-replicate p.base_post true ∙ b in
    let surplus_of : length R ≤ length M → length M ≡ length R + (length M - length R) = λ h. omega (arith, h) in
    let last : length R ≤ length M → left_in R M ≡ drop (length M - length R) M = λ h.
    ap (λ k. drop k (R ++ M)) (surplus_of h) ∙ drop-append-add R M (length M - length R) in
    let within : length p.pre + length bits ≤ length M = omega (arith, length-append p.pre (bits ++ p.post), length-append bits p.post) in
    record {
      kept = λ h.
          subst (λ t. AreCardsFrom (length before) (cut_back ir run t) (cut_back ir (before ++ (run ++ after)) (left_in (line_of ir (before ++ (run ++ after))) (padded p bits))))
          (sym (last h)) (long_enough ir before run after P M Q (length M - length R) nP nQ (surplus_of h));
      last = last;
      captured_same = λ h.
          data_part p.base_pre (length p.pre) (length bits) (length M) (shifted_out (line_of ir (before ++ (run ++ after))) (padded p bits)) within
          ∙ ap (λ L. take (length bits) (drop (length p.pre) (take (length M) (drop p.base_pre (shifted_out L (padded p bits)))))) (three ir before run after)
          ∙ ap (λ k. take (length bits) (drop (length p.pre) (take (length M) (drop k (shifted_out (F ++ (R ++ B)) (padded p bits)))))) a
          ∙ ap (λ t. take (length bits) (drop (length p.pre) t)) (out_of_middle F R B P M Q nP nQ h)
          ∙ ap (λ t. take (length bits) (drop (length p.pre) t)) (sym (take-append-le (length M) R M h))
          ∙ sym (ap (λ t. take (length bits) (drop (length p.pre) t)) (take_own_length (length M) (R ++ M)))
          ∙ sym (data_part 0 (length p.pre) (length bits) (length M) (shifted_out R M) within);
      exact = λ e.
          let stays = ap (λ L. left_in L (padded p bits)) (three ir before run after) ∙ surplus F R B P M Q nP nQ 0 (omega (arith, e)) in
          ap (cut_back ir (before ++ (run ++ after))) stays ∙ exactly ir before run after p.base_pre p.base_post M a b e;
    }
