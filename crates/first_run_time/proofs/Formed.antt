-- The run time is formed, and has its routines.
use Rattle.std.proofs.Common.{◌≡◌, ◌≢◌, ◌<◌, ◌^◌, ◌++◌, Result, Ok, Err, ℕ, zero, suc, List, [], ◌∷◌, true, false, refl, sym, ◌∙◌, arith, pos, codes, inr, FitsSigned}
use Rattle.std.specs.Prelude.{All, IfOk}
use Rattle.std.specs.Int.{w32}
use Rattle.std.specs.Str.{bytes_eq}
use Rattle.std.proofs.lemmas.Slice.Eq.{bytes_eq-Decides}
use Rattle.std.proofs.lemmas.List.Kept.{AllPairs-cons}
use Rattle.std.specs.List.{AllPairs}
use Rattle.wasm_tree.specs.declared.types.ValueType.TheVariants.{I32, I64}
use Rattle.wasm_tree.specs.Imports.{entry_type, size_type, copy_type, bytes_type, IsMethodName, IsEntryName}
use Rattle.low_ir.specs.Numbering.{host_types, host_signatures}
use Rattle.low_ir.specs.Formed.{FunctionIsFormed, ModuleIsFormed, IsFormedModule}
use Rattle.low_ir.specs.declared.module_parts.LowModule.{LowModule}
use Rattle.low_ir.specs.Flat.{flat_module}
use Rattle.memory_routines.specs.Laws.{word_of}
use Rattle.memory_routines.proofs.Formed.{routines_formed}
use Rattle.routine_lines.specs.Roles.{Allocating, Copying, Comparing, Ordering, Numbering}
use Rattle.first_run_time.specs.Entries.{digits_entry, copy_entry, same_entry, order_entry, digits_name, copy_name, same_name, order_name}
use Rattle.first_run_time.specs.RunTime.{run_time}
use Rattle.first_run_time.specs.Laws.{RunTimeHasItsRoutines}

word : (n : ℕ) → n < 2 ^ 31 → FitsSigned w32 (pos n)
word n h = record { sfits = h }

digits_formed : FunctionIsFormed run_time digits_entry
unfolding host_types host_signatures
digits_formed = record {
  type = entry_type;
  is = refl;
  few = omega arith;
  body = (
    record { type = word_of (I32 ∷ []); is = refl; kinds = ((refl, word 28 (omega arith)), tt); gives = (I32, refl, refl) },
    (
      I32,
      refl,
      (refl, (refl, word 20 (omega arith)), refl),
      (
        record { type = copy_type; is = refl; kinds = (refl, ((refl, word 0 (omega arith)), ((refl, word 8 (omega arith)), tt))); gives = refl },
        (
          I64,
          refl,
          (refl, omega arith, refl),
          (
            record { type = word_of (I32 ∷ I64 ∷ []); is = refl; kinds = (refl, (refl, tt)); gives = (I32, refl, refl) },
            (
              I32,
              refl,
              (refl, refl, refl),
              (
                record { type = bytes_type; is = refl; kinds = (refl, (refl, tt)); gives = refl },
                (record { type = entry_type; is = refl; kinds = tt; gives = refl }, refl),
              ),
            ),
          ),
        ),
      ),
    ),
  );
}

copy_formed : FunctionIsFormed run_time copy_entry
unfolding host_types host_signatures
copy_formed = record {
  type = entry_type;
  is = refl;
  few = omega arith;
  body = (
    record { type = size_type; is = refl; kinds = tt; gives = (I32, refl, refl) },
    (
      record { type = word_of (I32 ∷ []); is = refl; kinds = (refl, tt); gives = (I32, refl, refl) },
      (
        record { type = copy_type; is = refl; kinds = (refl, ((refl, word 0 (omega arith)), (refl, tt))); gives = refl },
        (
          record { type = word_of (I32 ∷ I32 ∷ []); is = refl; kinds = (refl, (refl, tt)); gives = (I32, refl, refl) },
          (
            record { type = bytes_type; is = refl; kinds = (refl, (refl, tt)); gives = refl },
            (record { type = entry_type; is = refl; kinds = tt; gives = refl }, refl),
          ),
        ),
      ),
    ),
  );
}

same_formed : FunctionIsFormed run_time same_entry
unfolding host_types host_signatures
same_formed = record {
  type = entry_type;
  is = refl;
  few = omega arith;
  body = (
    record { type = size_type; is = refl; kinds = tt; gives = (I32, refl, refl) },
    (
      record { type = word_of (I32 ∷ []); is = refl; kinds = (refl, tt); gives = (I32, refl, refl) },
      (
        record { type = copy_type; is = refl; kinds = (refl, ((refl, word 0 (omega arith)), (refl, tt))); gives = refl },
        (
          I32,
          refl,
          (refl, (refl, word 1 (omega arith)), refl),
          (
            I32,
            refl,
            (refl, refl, refl),
            (
              record { type = word_of (I32 ∷ I32 ∷ I32 ∷ []); is = refl; kinds = (refl, (refl, (refl, tt))); gives = (I32, refl, refl) },
              (refl, word 2 (omega arith)),
              (
                record { type = word_of (I32 ∷ []); is = refl; kinds = ((refl, word 1 (omega arith)), tt); gives = (I32, refl, refl) },
                (
                  refl,
                  omega arith,
                  refl,
                  (
                    record { type = bytes_type; is = refl; kinds = (refl, ((refl, word 1 (omega arith)), tt)); gives = refl },
                    (record { type = entry_type; is = refl; kinds = tt; gives = refl }, refl),
                  ),
                ),
              ),
            ),
          ),
        ),
      ),
    ),
  );
}

order_formed : FunctionIsFormed run_time order_entry
unfolding host_types host_signatures
order_formed = record {
  type = entry_type;
  is = refl;
  few = omega arith;
  body = (
    record { type = size_type; is = refl; kinds = tt; gives = (I32, refl, refl) },
    (
      record { type = word_of (I32 ∷ []); is = refl; kinds = (refl, tt); gives = (I32, refl, refl) },
      (
        record { type = copy_type; is = refl; kinds = (refl, ((refl, word 0 (omega arith)), (refl, tt))); gives = refl },
        (
          I32,
          refl,
          (refl, (refl, word 4 (omega arith)), refl),
          (
            refl,
            ((refl, word 0 (omega arith)), (refl, word 18 (omega arith))),
            refl,
            (
              I32,
              refl,
              (refl, omega arith, refl),
              (
                I32,
                refl,
                (refl, (refl, word 4 (omega arith)), refl),
                (
                  I32,
                  refl,
                  (refl, refl, refl),
                  (
                    refl,
                    ((refl, word 0 (omega arith)), (refl, word 18 (omega arith))),
                    refl,
                    (
                      I32,
                      refl,
                      (refl, (refl, word 4 (omega arith)), refl),
                      (
                        I32,
                        refl,
                        (refl, refl, refl),
                        (
                          I32,
                          refl,
                          (refl, refl, refl),
                          (
                            record { type = word_of (I32 ∷ I32 ∷ I32 ∷ I32 ∷ []); is = refl; kinds = (refl, (refl, (refl, (refl, tt)))); gives = (I32, refl, refl) },
                            (
                              refl,
                              omega arith,
                              refl,
                              (
                                record { type = bytes_type; is = refl; kinds = (refl, ((refl, word 1 (omega arith)), tt)); gives = refl },
                                (record { type = entry_type; is = refl; kinds = tt; gives = refl }, refl),
                              ),
                            ),
                          ),
                        ),
                      ),
                    ),
                  ),
                ),
              ),
            ),
          ),
        ),
      ),
    ),
  );
}

-- The names.

named : (method : List ℕ) → IsMethodName method → IsEntryName (codes "canister_query " ++ method)
named method is = inr (inr (inr (method, is, inr refl)))

differ : (a b : List ℕ) → bytes_eq a b ≡ false → a ≢ b
differ a b e = λ same. let is : bytes_eq a b ≡ true = (bytes_eq-Decides a b).1 same in let no : true ≡ false = sym is ∙ e in absurd (cc)

digits_apart : All (λ b. digits_name ≢ b) (copy_name ∷ same_name ∷ order_name ∷ [])
digits_apart zero d within = differ digits_name copy_name refl
digits_apart (suc zero) d within = differ digits_name same_name refl
digits_apart (suc (suc zero)) d within = differ digits_name order_name refl
digits_apart (suc (suc (suc k))) d within = absurd (omega (arith, within))

copy_apart : All (λ b. copy_name ≢ b) (same_name ∷ order_name ∷ [])
copy_apart zero d within = differ copy_name same_name refl
copy_apart (suc zero) d within = differ copy_name order_name refl
copy_apart (suc (suc k)) d within = absurd (omega (arith, within))

same_apart : All (λ b. same_name ≢ b) (order_name ∷ [])
same_apart zero d within = differ same_name order_name refl
same_apart (suc k) d within = absurd (omega (arith, within))

alone : AllPairs (λ a b. a ≢ b) (order_name ∷ [])
alone i j d p q = absurd (omega (arith, p, q))

names_apart : AllPairs (λ a b. a ≢ b) (digits_name ∷ copy_name ∷ same_name ∷ order_name ∷ [])
names_apart =
    AllPairs-cons (λ a b. a ≢ b) digits_name (copy_name ∷ same_name ∷ order_name ∷ []) digits_apart
    (AllPairs-cons (λ a b. a ≢ b) copy_name (same_name ∷ order_name ∷ []) copy_apart
    (AllPairs-cons (λ a b. a ≢ b) same_name (order_name ∷ []) same_apart alone))

pub run_time_formed : ModuleIsFormed run_time
unfolding host_types host_signatures
run_time_formed = record {
  types = (record { results = omega arith; params = omega arith }, (record { results = omega arith; params = omega arith }, (record { results = omega arith; params = omega arith }, (record { results = omega arith; params = omega arith }, (record { results = omega arith; params = omega arith }, (record { results = omega arith; params = omega arith }, tt))))));
  functions = (
    (routines_formed run_time 23).0 refl refl,
    (
      (routines_formed run_time 24).1 22 refl refl,
      (
        (routines_formed run_time 25).2 refl,
        (
          (routines_formed run_time 26).3 refl,
          (
            (routines_formed run_time 27).4 refl,
            (digits_formed, (copy_formed, (same_formed, (order_formed, tt)))),
          ),
        ),
      ),
    ),
  );
  table = (omega arith, (omega arith, (omega arith, (omega arith, (omega arith, tt)))));
  globals = (word 64 (omega arith), tt);
  exports = (
    record { name = named (codes "digits") (record { some = λ e. absurd (cc); visible = ((omega arith, omega arith), ((omega arith, omega arith), ((omega arith, omega arith), ((omega arith, omega arith), ((omega arith, omega arith), ((omega arith, omega arith), tt)))))) }); plain = refl },
    (
      record { name = named (codes "copy") (record { some = λ e. absurd (cc); visible = ((omega arith, omega arith), ((omega arith, omega arith), ((omega arith, omega arith), ((omega arith, omega arith), tt)))) }); plain = refl },
      (
        record { name = named (codes "same") (record { some = λ e. absurd (cc); visible = ((omega arith, omega arith), ((omega arith, omega arith), ((omega arith, omega arith), ((omega arith, omega arith), tt)))) }); plain = refl },
        (record { name = named (codes "order") (record { some = λ e. absurd (cc); visible = ((omega arith, omega arith), ((omega arith, omega arith), ((omega arith, omega arith), ((omega arith, omega arith), ((omega arith, omega arith), tt))))) }); plain = refl }, tt),
      ),
    ),
  );
  names = names_apart;
  few_types = omega arith;
  few_functions = omega arith;
  few_entries = omega arith;
  few_globals = omega arith;
  few_pages = omega arith;
  fits = omega arith;
  short = omega arith;
}

pub run_time_has : RunTimeHasItsRoutines
unfolding host_types host_signatures
run_time_has Allocating = record { typed = refl; there = refl }
run_time_has Copying = record { typed = refl; there = refl }
run_time_has Comparing = record { typed = refl; there = refl }
run_time_has Ordering = record { typed = refl; there = refl }
run_time_has Numbering = record { typed = refl; there = refl }

pub is_formed : (low : LowModule) → low ≡ flat_module run_time → IsFormedModule low
is_formed low e = record { tree = run_time; is = e; formed = run_time_formed }

pub made_formed : {E : Type 0} (r : Result LowModule E) → IfOk r (λ low. low ≡ flat_module run_time) → IfOk r (λ low. IsFormedModule low)
made_formed (Ok low) e = is_formed low e
made_formed (Err fault) e = tt
