-- Texts that the host shows.
use Rattle.std.proofs.Common.{◌≡◌, ℕ, ◌+◌, ◌<◌, ◌≤◌, ◌^◌, List, [], ◌∷◌, length, take, drop, true, cond, nat_le, Some, None, slice_get, refl, ap, ◌∙◌, arith}
use Rattle.std.specs.Prelude.{◌%◌}
use Rattle.std.proofs.lemmas.Bool.Decides.{nat_tests}
use Rattle.mo_values.specs.Shapes.{Bytes}
use Rattle.ic0_world.specs.declared.function.Ic0.TheVariants as f
use Rattle.ic0_world.specs.Names.{functions}
use Rattle.ic0_world.specs.declared.world.World.{World}
use Rattle.ic0_world.specs.Act.{Did, Gives, Traps, misuse, with_range}
use Rattle.canister_host.specs.Entries.{answer_of, call_of}
use Rattle.low_ir.specs.Numbering.{host_trap}
use Rattle.heap_layout.specs.Table.{StandsAt, host_print}
use Rattle.limited_runs.specs.Shown.{told, fell}
use Rattle.limited_runs.specs.Laws.{HostShowsTexts}

small : (n : ℕ) → n < 2 ^ 32 → n % 2 ^ 32 ≡ n
small n lt = omega (arith, lt)

is_so : (a b : ℕ) → a ≤ b → nat_le a b ≡ true
is_so a b le = grind (arith, nat_tests, le)

module _ (memory : List ℕ) (world : World) (address : ℕ) (text : Bytes) (few : length memory < 2 ^ 32) (stands : StandsAt memory address text) (next : List ℕ → Did) where
  -- The range of the text is inside.
  ranged : with_range (address % 2 ^ 32) (length text % 2 ^ 32) memory world next ≡ next text
  ranged =
      let i = stands.inside in
      (λ j. with_range (small address (omega (arith, i, few)) j) (small (length text) (omega (arith, i, few)) j) memory world next)
      ∙ ap (λ t. cond t (next (take (length text) (drop address memory))) (misuse world)) (is_so (address + length text) (length memory) i)
      ∙ ap next stands.bytes

prints_as : slice_get functions host_print ≡ Some f.DebugPrint
unfolding functions
prints_as = refl

traps_as : slice_get functions host_trap ≡ Some f.Trap
unfolding functions
traps_as = refl

pub shows : HostShowsTexts
shows = record {
  prints = λ memory world address text few stands.
      ap (λ function. answer_of (call_of function (address ∷ length text ∷ []) memory world)) prints_as ∙ ap answer_of (ranged memory world address text few stands (λ t. Gives None memory (told world t)));
  traps = λ memory world address text few stands.
      ap (λ function. answer_of (call_of function (address ∷ length text ∷ []) memory world)) traps_as ∙ ap answer_of (ranged memory world address text few stands (λ t. Traps (fell world t)));
}
