-- Bytes are the file of a valid code, or they have a fault, and one alone.
use Rattle.std.proofs.Common.{◌≡◌, ◌≢◌, ◌≤◌, ◌<◌, ◌-◌, ◌⊎◌, ℕ, true, false, cond, ◌==◌, List, [], ◌∷◌, length, drop, Option, Some, None, Result, Ok, Err, All, ltb, refl, sym, ap, subst, ◌∙◌, arith, inl, inr}
use Rattle.std.specs.List.{flat_map}
use Rattle.std.proofs.lemmas.Bool.{cases_lt, le-ltb, lt-ltb}
use Rattle.std.proofs.lemmas.Bool.Decides.{nat_tests}
use Rattle.std.proofs.lemmas.List.{append-nil}
use Rattle.stapl_code.specs.declared.raw.CodeLists.{CodeLists}
use Rattle.stapl_code.specs.Instrs.{instr}
use Rattle.stapl_code.specs.Files.{file, most_bytes, HasFile}
use Rattle.stapl_code.specs.Valid.{first_break}
use Rattle.stapl_code.specs.declared.reason.CodeReason.{CodeReason}
use Rattle.stapl_code.specs.declared.reason.CodeReason.TheVariants.{Extra, Invalid, TooLong}
use Rattle.code_files.specs.declared.fault.Fault.{Fault}
use Rattle.code_files.specs.declared.decoding.DecodeRefused.{DecodeRefused}
use Rattle.code_files.specs.declared.decoding.DecodeRefused.TheVariants.{At}
use Rattle.code_files.specs.ReadFiles.{code_at}
use Rattle.code_files.specs.CodeFaults.{IsFileOf, IsCodeFault, too_long, broken, extra, invalid, NamesFault}
use Rattle.code_files.proofs.CodeAgain.{read_again}
use Rattle.code_files.proofs.FieldsTaken.{IsRead, value_is}
use Rattle.code_files.proofs.CodeTaken.{IsWhole, code_taken}

-- what is found of bytes: the code of a valid file, or a fault
abbrev Found : Type 0
Found = CodeLists ⊎ (ℕ × CodeReason)

abbrev faulty : ℕ → CodeReason → Found
faulty offset reason = inr (offset, reason)

abbrev judged : ℕ → CodeLists → Option ℕ → Found
judged len code None = inl code
judged len code (Some i) = faulty (len - length (flat_map instr (drop i code.instrs))) Invalid

abbrev ended : ℕ → CodeLists → List ℕ → Found
ended len code [] = judged len code (first_break code)
ended len code (b ∷ rest) = faulty (len - length (b ∷ rest)) Extra

abbrev read : ℕ → Result (CodeLists × List ℕ) Fault → Found
read len (Ok x) = ended len x.0 x.1
read len (Err f) = faulty (len - f.left) f.reason

abbrev found : List ℕ → Found
found bytes = cond (ltb most_bytes (length bytes)) (faulty most_bytes TooLong) (read (length bytes) (code_at bytes))

short_found : (bytes : List ℕ) → length bytes ≤ most_bytes → found bytes ≡ read (length bytes) (code_at bytes)
short_found bytes short = let few : ltb most_bytes (length bytes) ≡ false = le-ltb most_bytes (length bytes) short in rw few refl

end_extra : (len : ℕ) (code : CodeLists) (rest : List ℕ) → rest ≢ [] → ended len code rest ≡ faulty (len - length rest) Extra
end_extra len code [] some = absurd (some refl)
end_extra len code (b ∷ rest) some = refl

fault_found : (bytes : List ℕ) (offset : ℕ) (reason : CodeReason) → IsCodeFault bytes offset reason → found bytes ≡ faulty offset reason
fault_found bytes _ _ (too_long long) = let more : ltb most_bytes (length bytes) ≡ true = lt-ltb most_bytes (length bytes) long in rw more refl
fault_found bytes _ _ (broken f short e) = short_found bytes short ∙ ap (read (length bytes)) e
fault_found bytes _ _ (extra code rest short e some) = short_found bytes short ∙ ap (read (length bytes)) e ∙ end_extra (length bytes) code rest some
fault_found bytes _ _ (invalid code i short e breaks) = short_found bytes short ∙ ap (read (length bytes)) e ∙ ap (judged (length bytes) code) breaks

file_found : (bytes : List ℕ) (code : CodeLists) → IsFileOf bytes code → found bytes ≡ inl code
file_found bytes code is =
    let e : code_at bytes ≡ Ok (code, []) = ap code_at (is.file ∙ sym (append-nil (file code))) ∙ read_again code [] is.has in
    let short : length bytes ≤ most_bytes = omega (arith, ap length is.file, is.has.short.most) in
    short_found bytes short ∙ ap (read (length bytes)) e ∙ ap (judged (length bytes) code) is.valid

pub no_fault : (bytes : List ℕ) (code : CodeLists) (offset : ℕ) (reason : CodeReason) → IsFileOf bytes code → IsCodeFault bytes offset reason → ⊥
no_fault bytes code offset reason is fault =
    let a : found bytes ≡ inl code = file_found bytes code is in
    let b : found bytes ≡ faulty offset reason = fault_found bytes offset reason fault in
    let c : inl code ≡ faulty offset reason = sym a ∙ b in
    absurd (cc)

same_fault : (i j : ℕ) (a b : CodeReason) → faulty i a ≡ faulty j b → (i ≡ j) × (a ≡ b)
same_fault i j a b e =
    let pair : (i, a) ≡ (j, b) = cc in
    (ap (λ (p : ℕ × CodeReason). p.0) pair, ap (λ (p : ℕ × CodeReason). p.1) pair)

pub one_alone : (bytes : List ℕ) (i j : ℕ) (a b : CodeReason) → IsCodeFault bytes i a → IsCodeFault bytes j b → (i ≡ j) × (a ≡ b)
one_alone bytes i j a b x y = same_fault i j a b (sym (fault_found bytes i a x) ∙ fault_found bytes j b y)

abbrev Answer : List ℕ → Type 0
Answer bytes = ((code : CodeLists) × IsFileOf bytes code) ⊎ ((offset : ℕ) × ((reason : CodeReason) × IsCodeFault bytes offset reason))

pub whole_file : (bytes : List ℕ) (code : CodeLists) → All (λ b. b < 256) bytes → length bytes ≤ most_bytes → code_at bytes ≡ Ok (code, []) → (bytes ≡ file code) × HasFile code
whole_file bytes code are short e =
    let r : IsRead file IsWhole bytes code [] = code_taken bytes code [] are e in
    let same : bytes ≡ file code = r.spelled ∙ append-nil (file code) in
    (same, record { in_range = r.has.in_range; fitting = r.has.fitting; short = record { most = omega (arith, ap length same) } })

valid_or : (bytes : List ℕ) (code : CodeLists) (first : Option ℕ) → All (λ b. b < 256) bytes → length bytes ≤ most_bytes → code_at bytes ≡ Ok (code, [])
    → first_break code ≡ first → Answer bytes
valid_or bytes code None are short e is =
    let whole = whole_file bytes code are short e in inl (code, record { file = whole.0; has = whole.1; valid = is })
valid_or bytes code (Some i) are short e is = inr (_, (_, invalid code i short e is))

ended_or : (bytes : List ℕ) (code : CodeLists) (rest : List ℕ) → All (λ b. b < 256) bytes → length bytes ≤ most_bytes → code_at bytes ≡ Ok (code, rest) → Answer bytes
ended_or bytes code [] are short e = valid_or bytes code (first_break code) are short e refl
ended_or bytes code (b ∷ rest) are short e = inr (_, (_, extra code (b ∷ rest) short e (λ none. cc)))

read_or : (bytes : List ℕ) (r : Result (CodeLists × List ℕ) Fault) → All (λ b. b < 256) bytes → length bytes ≤ most_bytes → code_at bytes ≡ r → Answer bytes
read_or bytes (Ok x) are short e = ended_or bytes x.0 x.1 are short e
read_or bytes (Err f) are short e = inr (_, (_, broken f short e))

pub file_or_fault : (bytes : List ℕ) → All (λ b. b < 256) bytes → Answer bytes
file_or_fault bytes are = elim (cases_lt most_bytes (length bytes)) [
  | inl long ↦ inr (_, (_, too_long long))
  | inr short ↦ read_or bytes (code_at bytes) are short refl
]

-- ---- refusals

pub none_left : (rest : List ℕ) → true ≡ (length rest == 0) → rest ≡ []
none_left [] h = refl
none_left (b ∷ rest) h = absurd (grind (arith, nat_tests))

pub some_left : (rest : List ℕ) → false ≡ (length rest == 0) → rest ≢ []
some_left [] h = absurd (cc)
some_left (b ∷ rest) h = λ none. cc

pub names_broken : (bytes : List ℕ) (f : Fault) (e : DecodeRefused) → length bytes ≤ most_bytes → code_at bytes ≡ Err f → e ≡ At (length bytes - f.left) f.reason → NamesFault bytes e
names_broken bytes f e short read is = subst (NamesFault bytes) (sym is) (broken f short read)

pub names_extra : (bytes : List ℕ) (code : CodeLists) (rest : List ℕ) (e : DecodeRefused) → length bytes ≤ most_bytes → code_at bytes ≡ Ok (code, rest) → rest ≢ []
    → e ≡ At (length bytes - length rest) Extra → NamesFault bytes e
names_extra bytes code rest e short read some is = subst (NamesFault bytes) (sym is) (extra code rest short read some)

pub names_invalid : (bytes : List ℕ) (lists code : CodeLists) (i left : ℕ) (e : DecodeRefused) → length bytes ≤ most_bytes → code_at bytes ≡ Ok (lists, [])
    → code_at bytes ≡ Ok (code, []) → first_break code ≡ Some i → left ≡ length (flat_map instr (drop i lists.instrs))
    → e ≡ At (length bytes - left) Invalid → NamesFault bytes e
names_invalid bytes lists code i left e short read again breaks left_is is =
    let same : lists ≡ code = value_is (lists, []) (code, []) (sym read ∙ again) in
    let placed : e ≡ At (length bytes - length (flat_map instr (drop i lists.instrs))) Invalid = is ∙ ap (λ (n : ℕ). At (length bytes - n) Invalid) left_is in
    subst (NamesFault bytes) (sym placed) (invalid lists i short read (ap first_break same ∙ breaks))
