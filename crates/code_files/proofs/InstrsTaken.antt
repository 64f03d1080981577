-- An instruction that is read is spelled by the bytes that were read.
use Rattle.std.proofs.Common.{◌+◌, ℕ, List, [], length, refl, arith}
use Rattle.std.specs.Prelude.{slice_get}
use Rattle.std.specs.Int.{w32}
use Rattle.std.specs.Int.RustNames.{FitsSigned}
use Rattle.stapl_code.specs.Ranges.{IsPart, IsSource, IsExport, IsDest, IsGiven, IsScan, IsInstr, size_of}
use Rattle.stapl_code.specs.Fields.{number, integer, counted}
use Rattle.stapl_code.specs.Instrs.{source, dest, part, export_part, scan, state, instr, FitsInstr}
use Rattle.code_files.specs.Reading.{listed_in, any_end}
use Rattle.code_files.specs.ReadInstrs.{register_at, padding_at, kind_at, wait_at, flag_at, state_at, integer_at, given_at, part_at, source_at, dest_at, export_part_at, scan_at, with_number, instr_at}
use Rattle.code_files.proofs.FieldsTaken.{Takes, IsFrom, AreEach, nothing_takes, made_takes, followed_takes, numbers_take, bytes_take, tagged_takes, each_takes}
use Rattle.code_files.proofs.PartsTaken.{Any, register, which_padding, kind, waits, flag, given_source, register_takes, padding_takes, kind_takes, wait_takes, flag_takes, state_takes, integer_takes, part_takes, source_takes, dest_takes, export_takes, given_takes, scan_takes}
use Rattle.stapl_code.specs.declared.instr.Instr.{Instr}
use Rattle.stapl_code.specs.declared.instr.Instr.TheVariants.{Turn, Push, PushBit, Load, LoadAt, CheckIndex, CheckRange, Store, StoreAt, Unary, Binary, ToInt, CopyBits, SetBits, SetInts, For, Next, PushRecord, PopRecord, Call, Jump, JumpIfZero, Print, Export, Scan as Scans, Stop, Pad, State as GoThrough, Wait, Frequency}
use Rattle.stapl_code.specs.declared.raw.VarDef.{VarDef}

module _ (variables : List VarDef) (literals texts procedures : ℕ) where
  -- an instruction whose fields are in their ranges
  abbrev pub IsGood : Instr → Type 0
  IsGood x = IsInstr variables literals texts procedures x × FitsInstr x

  -- a number, by itself
  number_is : (end : ℕ) → Takes [] (with_number end (λ n. n)) number (IsFrom 0 end)
  number_is end = numbers_take [] 0 end (λ n. n) number (IsFrom 0 end) (λ n. refl) (λ n h. h)

  pub instr_takes : Takes [] (instr_at variables literals texts procedures) instr IsGood
  instr_takes = tagged_takes [] 1 _ instr IsGood (
    numbers_take _ 1 100001 Turn instr IsGood (λ n. refl) (λ n h. ((h.0, omega arith), tt)),
    (
      made_takes _ Push integer_at integer (FitsSigned w32) instr IsGood integer_takes (λ x. refl) (λ x h. (tt, h)),
      (
        bytes_take _ 0 2 PushBit instr IsGood (λ n. refl) (λ n h. (omega arith, tt)),
        (
          numbers_take _ 0 (length variables) Load instr IsGood (λ n. refl) (λ n h. (h.1, tt)),
          (
            numbers_take _ 0 (length variables) LoadAt instr IsGood (λ n. refl) (λ n h. (h.1, tt)),
            (
              numbers_take _ 0 (length variables) CheckIndex instr IsGood (λ n. refl) (λ n h. (h.1, tt)),
              (
                numbers_take _ 0 (length variables) CheckRange instr IsGood (λ n. refl) (λ n h. (h.1, tt)),
                (
                  numbers_take _ 0 (length variables) Store instr IsGood (λ n. refl) (λ n h. (h.1, tt)),
                  (
                    numbers_take _ 0 (length variables) StoreAt instr IsGood (λ n. refl) (λ n h. (h.1, tt)),
                    (
                      bytes_take _ 0 4 Unary instr IsGood (λ n. refl) (λ n h. (h.1, tt)),
                      (
                        bytes_take _ 0 23 Binary instr IsGood (λ n. refl) (λ n h. (h.1, tt)),
                        (
                          made_takes _ ToInt (source_at (length variables) literals) source (IsSource (length variables) literals) instr IsGood
                              (source_takes (length variables) literals) (λ x. refl) (λ x h. (h, tt)),
                          (
                            followed_takes _ (dest_at (length variables)) _ dest (IsDest (length variables)) instr IsGood (dest_takes (length variables))
                                (λ d dh. made_takes _ (CopyBits d) (source_at (length variables) literals) source (IsSource (length variables) literals) instr IsGood
                                (source_takes (length variables) literals) (λ s. refl) (λ s h. ((dh, h), tt))),
                            (
                              followed_takes _ (with_number (length variables) (λ n. n)) _ number (IsFrom 0 (length variables)) instr IsGood
                                  (number_is (length variables)) (λ n nh. numbers_take _ 0 literals (SetBits n) instr IsGood (λ m. refl) (λ m h. ((nh.1, h.1), tt))),
                              (
                                followed_takes _ (with_number (length variables) (λ n. n)) _ number (IsFrom 0 (length variables)) instr IsGood
                                    (number_is (length variables)) (λ n nh. made_takes _ (SetInts n) (listed_in (λ _. integer_at) 1 (size_of (slice_get variables n) + 1))
                                    (counted integer) (AreEach (FitsSigned w32) 1 (size_of (slice_get variables n) + 1)) instr IsGood
                                    (each_takes integer_at integer (FitsSigned w32) integer_takes 1 (size_of (slice_get variables n) + 1)) (λ xs. refl)
                                    (λ xs h. ((nh.1, h.0.0, omega (arith, h.0.1)), h.1))),
                                (
                                  numbers_take _ 0 any_end Jump instr IsGood (λ n. refl) (λ n h. (tt, h.1)),
                                  (
                                    numbers_take _ 0 any_end JumpIfZero instr IsGood (λ n. refl) (λ n h. (tt, h.1)),
                                    (
                                      followed_takes _ (with_number (length variables) (λ n. n)) _ number (IsFrom 0 (length variables)) instr IsGood
                                          (number_is (length variables)) (λ n nh. numbers_take _ 0 any_end (For n) instr IsGood (λ m. refl) (λ m h. (nh.1, h.1))),
                                      (
                                        numbers_take _ 0 (length variables) Next instr IsGood (λ n. refl) (λ n h. (h.1, tt)),
                                        (
                                          made_takes _ PushRecord kind_at kind Any instr IsGood kind_takes (λ x. refl) (λ x h. (tt, tt)),
                                          (
                                            made_takes _ PopRecord kind_at kind Any instr IsGood kind_takes (λ x. refl) (λ x h. (tt, tt)),
                                            (
                                              numbers_take _ 0 procedures Call instr IsGood (λ n. refl) (λ n h. (h.1, tt)),
                                              (
                                                nothing_takes _ _ _ _ refl (tt, tt),
                                                (
                                                  made_takes _ Print (listed_in (λ _. part_at texts) 1 any_end) (counted part)
                                                      (AreEach (IsPart texts) 1 any_end) instr IsGood
                                                      (each_takes (part_at texts) part (IsPart texts) (part_takes texts) 1 any_end) (λ x. refl) (λ x h. ((h.0.0, h.1), tt)),
                                                  (
                                                    nothing_takes _ _ _ _ refl (tt, tt),
                                                    (
                                                      followed_takes _ (with_number texts (λ n. n)) _ number (IsFrom 0 texts) instr IsGood (number_is texts)
                                                          (λ key kh. made_takes _ (Export key) (export_part_at (length variables) literals) export_part
                                                          (IsExport (length variables) literals) instr IsGood (export_takes (length variables) literals) (λ x. refl) (λ x h. ((kh.1, h), tt))),
                                                      (
                                                        nothing_takes _ _ _ _ refl (tt, tt),
                                                        (
                                                          made_takes _ Scans (scan_at (length variables) literals) scan (IsScan (length variables) literals) instr IsGood
                                                              (scan_takes (length variables) literals) (λ x. refl) (λ x h. (h, tt)),
                                                          (
                                                            followed_takes _ register_at _ register Any instr IsGood register_takes
                                                                (λ r _. made_takes _ (Stop r) state_at state Any instr IsGood state_takes (λ x. refl) (λ x h. (tt, tt))),
                                                            (
                                                              followed_takes _ padding_at _ which_padding Any instr IsGood padding_takes
                                                                  (λ w _. made_takes _ (Pad w) (given_at (source_at (length variables) literals))
                                                                  (given_source (length variables) literals)
                                                                  (IsGiven (IsSource (length variables) literals)) instr IsGood
                                                                  (given_takes (length variables) literals) (λ x. refl) (λ x h. (h, tt))),
                                                              (
                                                                made_takes _ GoThrough (listed_in (λ _. state_at) 1 any_end) (counted state)
                                                                    (AreEach Any 1 any_end) instr IsGood (each_takes state_at state Any state_takes 1 any_end) (λ x. refl) (λ x h. (h.0.0, tt)),
                                                                (
                                                                  followed_takes _ state_at _ state Any instr IsGood state_takes
                                                                      (λ at _. followed_takes _ wait_at _ waits Any instr IsGood wait_takes
                                                                      (λ counts _. made_takes _ (Wait at counts) state_at state Any instr IsGood state_takes (λ x. refl) (λ x h. (tt, tt)))),
                                                                  (
                                                                    made_takes _ Frequency flag_at flag Any instr IsGood flag_takes (λ x. refl) (λ x h. (tt, tt)),
                                                                    tt,
                                                                  ),
                                                                ),
                                                              ),
                                                            ),
                                                          ),
                                                        ),
                                                      ),
                                                    ),
                                                  ),
                                                ),
                                              ),
                                            ),
                                          ),
                                        ),
                                      ),
                                    ),
                                  ),
                                ),
                              ),
                            ),
                          ),
                        ),
                      ),
                    ),
                  ),
                ),
              ),
            ),
          ),
        ),
      ),
    ),
  )
