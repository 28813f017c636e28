-- A text that a test finds among those of the module stands ready.
use Rattle.std.proofs.Common.{◌≡◌, ℕ, suc, ◌+◌, ◌*◌, ◌<◌, ◌≤◌, List, length, take, drop, Bool, true, false, ◌&&◌, nat_eq, nat_lt, nat_le, refl, sym, ap, ◌∙◌, subst, arith}
use Rattle.std.specs.Str.{bytes_eq}
use Rattle.std.proofs.lemmas.Slice.Eq.{bytes_eq-Decides}
use Rattle.std.proofs.lemmas.Bool.Decides.{nat_tests}
use Rattle.heap_layout.specs.Words.{word_at}
use Rattle.heap_layout.specs.Blocks.{text_words}
use Rattle.heap_layout.specs.Heaps.{Plan}
use Rattle.operation_codes.specs.Links.{stands_ready}
use Rattle.emitted_steps.specs.States.{StandsReady}
use Rattle.emitted_modules.proofs.Lists.{first, second}

module _ (plan : Plan) (bytes_at : List ℕ → ℕ) (t : List ℕ) (e : stands_ready plan (bytes_at t) t ≡ true) where
  abbrev i : ℕ
  i = bytes_at t

  abbrev more : (nat_le (i + text_words t) plan.base && (nat_eq (word_at plan.texts i) (length t) && (nat_le (8 * i + 8 + length t) (length plan.texts) && bytes_eq (take (length t) (drop (8 * i + 8) plan.texts)) t))) ≡ true
  more = second (nat_lt 0 i) _ e

  abbrev still : (nat_eq (word_at plan.texts i) (length t) && (nat_le (8 * i + 8 + length t) (length plan.texts) && bytes_eq (take (length t) (drop (8 * i + 8) plan.texts)) t)) ≡ true
  still = second (nat_le (i + text_words t) plan.base) _ more

  abbrev last : (nat_le (8 * i + 8 + length t) (length plan.texts) && bytes_eq (take (length t) (drop (8 * i + 8) plan.texts)) t) ≡ true
  last = second (nat_eq (word_at plan.texts i) (length t)) _ still

  pub stands_ready_is : StandsReady plan bytes_at t
  stands_ready_is = record {
    some = grind (arith, nat_tests, first (nat_lt 0 i) _ e);
    inside = grind (arith, nat_tests, first (nat_le (i + text_words t) plan.base) _ more);
    written = record {
      size = grind (arith, nat_tests, first (nat_eq (word_at plan.texts i) (length t)) _ still);
      stands = record {
        inside = grind (arith, nat_tests, first (nat_le (8 * i + 8 + length t) (length plan.texts)) _ last);
        bytes = (bytes_eq-Decides (take (length t) (drop (8 * i + 8) plan.texts)) t).0 (second (nat_le (8 * i + 8 + length t) (length plan.texts)) _ last);
      };
    };
  }
