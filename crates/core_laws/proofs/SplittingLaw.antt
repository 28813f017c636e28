-- The law of splitting.
use Rattle.std.proofs.Common.{◌≡◌, ℕ, zero, suc, refl, sym, subst, List, arith as arithmetic}
use Rattle.mo_types.specs.declared.node.TypeId.{TypeId}
use Rattle.mo_types.specs.Calls.{CallTable}
use Rattle.core_ir.specs.Worlds.{Given, World, Context}
use Rattle.core_ir.specs.Executions.{Entry, Begins, Resumes, Saves, Starts, Replies, Rejects, Waits, Traps, Breaks, Stand, Still, Over, Machine, execution}
use Rattle.core_ir.specs.Expressions.{Core}
use Rattle.core_ir.specs.CoreMachine as core
use Rattle.core_ir.specs.CoreMachine.{core_machine}
use Rattle.core_ir.specs.Code.{CodeProgram}
use Rattle.core_ir.specs.CodeMachine as code
use Rattle.core_ir.specs.CodeMachine.{code_machine}
use Rattle.core_laws.specs.Carried.{with_table, IsOver, Anew, EndsAlike, StandsAlike, ShowsAlike, Carries}
use Rattle.core_laws.specs.Laws.{SplittingCarries}
use Rattle.core_ir.specs.Nested.{Nested}
use Rattle.core_laws.specs.Split.{split_program, size_at}
use Rattle.core_laws.proofs.SplitRuns.{Stands, Ended, Close}
use Rattle.core_laws.proofs.SplitExecutions.{Entries, split_each, split_back, split_between, split_next}
use Rattle.core_laws.proofs.SplitPrograms.{program_splits}

abbrev InCore : Type 0
InCore = Stand core.State core.Waiting

abbrev InCode : Type 0
InCode = Stand code.State code.Waiting

near : (sizes : ℕ → ℕ) (c : Context) (nodes : ℕ) (p : Core) (q : CodeProgram) (x : InCore) (y : InCode) → Close sizes c nodes p q x y → ShowsAlike 2 (λ world. world) x y
near sizes c nodes p q (Still w d o wd s) (Still w' d' o' wd' t) h = record { prints_are = h.0; weight = h.1; depth = h.2 }
near sizes c nodes p q (Still w d o wd s) (Over w' d' o' wd' e) h = tt
near sizes c nodes p q (Over w d o wd Breaks) y h = tt
near sizes c nodes p q (Over w d o wd (Replies v)) (Still w' d' o' wd' t) h = absurd h
near sizes c nodes p q (Over w d o wd (Replies v)) (Over w' d' o' wd' e) h = tt
near sizes c nodes p q (Over w d o wd (Rejects v)) (Still w' d' o' wd' t) h = absurd h
near sizes c nodes p q (Over w d o wd (Rejects v)) (Over w' d' o' wd' e) h = tt
near sizes c nodes p q (Over w d o wd (Waits on v)) (Still w' d' o' wd' t) h = absurd h
near sizes c nodes p q (Over w d o wd (Waits on v)) (Over w' d' o' wd' e) h = tt
near sizes c nodes p q (Over w d o wd (Traps v)) (Still w' d' o' wd' t) h = absurd h
near sizes c nodes p q (Over w d o wd (Traps v)) (Over w' d' o' wd' e) h = tt

module _ (p : Core) (nested : Nested p) where
  abbrev sizes : ℕ → ℕ
  sizes = size_at p.groups

  abbrev q : CodeProgram
  q = split_program p

  abbrev old : Machine core.State core.Waiting
  old = core_machine p

  abbrev new : Machine code.State code.Waiting
  new = code_machine q

  module _ (m : ℕ) (c : Context) where
    abbrev Next : core.Waiting → code.Waiting → Type 0
    Next x y = (table : CallTable (List TypeId) Given) (given : Given) → Carries 2 (λ world. world) old new m (with_table c table) (Resumes x given) (Resumes y given)

    abbrev Alike : InCore → InCode → Type 0
    Alike = StandsAlike 2 (λ world. world) Next

    module _ (more : (table : CallTable (List TypeId) Given) (e : Entry core.Waiting) (e' : Entry code.Waiting) → Entries sizes (with_table c table) p q e e' → Carries 2 (λ world. world) old new m (with_table c table) e e')
        (world : World) (e : Entry core.Waiting) (e' : Entry code.Waiting) (entries : Entries sizes c p q e e') where
      module _ (n nodes k : ℕ) where
        abbrev S : InCore → InCode → Type 0
        S = Stands sizes c nodes p q 0 k

        alike_at : (x : InCore) → execution old c n world e ≡ x → (y : InCode) → S x y → Alike x y
        alike_at (Still w d o wd s) z (Still w' d' o' wd' t) h = let l = h.weight in record { prints_are = sym h.out_is; world_is = sym h.world_is; weight = omega (arithmetic, l); depth = h.depth }
        alike_at (Still w d o wd s) z (Over w' d' o' wd' t) h = absurd h
        alike_at (Over w d o wd Breaks) z y h = tt
        alike_at (Over w d o wd (Replies v)) z (Still w' d' o' wd' t) h = absurd h
        alike_at (Over w d o wd (Replies v)) z (Over w' d' o' wd' t) h = record { prints_are = sym h.out_is; world_is = sym h.world_is; weight = h.weight; depth = h.depth; ends = h.fits }
        alike_at (Over w d o wd (Rejects v)) z (Still w' d' o' wd' t) h = absurd h
        alike_at (Over w d o wd (Rejects v)) z (Over w' d' o' wd' t) h = record { prints_are = sym h.out_is; world_is = sym h.world_is; weight = h.weight; depth = h.depth; ends = h.fits }
        alike_at (Over w d o wd (Traps v)) z (Still w' d' o' wd' t) h = absurd h
        alike_at (Over w d o wd (Traps v)) z (Over w' d' o' wd' t) h = record { prints_are = sym h.out_is; world_is = sym h.world_is; weight = h.weight; depth = h.depth; ends = h.fits }
        alike_at (Over w d o wd (Waits on s)) z (Still w' d' o' wd' t) h = absurd h
        alike_at (Over w d o wd (Waits on s)) z (Over w' d' o' wd' t) h =
            let f = split_next sizes c p q nested world e e' entries n w d w' d' o o' wd wd' on s t z nodes k (subst (λ x. S x (Over w' d' o' wd' t)) (sym z) h) in
            record {
              prints_are = sym h.out_is;
              world_is = sym h.world_is;
              weight = h.weight;
              depth = h.depth;
              ends = subst (λ r. EndsAlike Next (Waits on s) r) (sym (f.1)) (refl, λ table given. more table (Resumes s given) (Resumes (f.0) given) (f.2 given));
            }

        alike : (y : InCode) → S (execution old c n world e) y → Alike (execution old c n world e) y
        alike y h = alike_at (execution old c n world e) refl y h

      ended_over : (nodes : ℕ) (x : InCore) (y : InCode) → Ended sizes c nodes p q x y → IsOver x
      ended_over nodes (Still w d o wd s) y h = absurd h
      ended_over nodes (Over w d o wd r) y h = tt

      ended_stands : (nodes : ℕ) (x : InCore) (y : InCode) → Ended sizes c nodes p q x y → Stands sizes c nodes p q 0 0 x y
      ended_stands nodes (Still w d o wd s) y h = absurd h
      ended_stands nodes (Over w d o wd r) y h = h

      back_at : (k : ℕ) (y : InCode) → execution new c k world e' ≡ y → IsOver y → (n : ℕ) × IsOver (execution old c n world e) × Alike (execution old c n world e) y
      back_at k (Still w d o wd t) z i = absurd i
      back_at k (Over w d o wd r) z i =
          let b = split_back sizes c p q (program_splits p) world e e' entries k w d o wd r z in
          let x = execution old c (b.1) world e in
          (b.1, ended_over (b.0) x (Over w d o wd r) (b.2), alike (b.1) (b.0) 0 (Over w d o wd r) (ended_stands (b.0) x (Over w d o wd r) (b.2)))

      forth : (n : ℕ) → (k : ℕ) × Alike (execution old c n world e) (execution new c k world e')
      forth n = let a = split_each sizes c p q (program_splits p) world e e' entries n in (a.1, alike n (a.0) (a.1) (execution new c (a.1) world e') (a.2))

      between : (k : ℕ) → (n : ℕ) × ShowsAlike 2 (λ world. world) (execution old c n world e) (execution new c k world e')
      between k = let a = split_between sizes c p q (program_splits p) k world e e' entries in (a.1, near sizes c (a.0) p q (execution old c (a.1) world e) (execution new c k world e') (a.2))

  carries : (m : ℕ) (c : Context) (e : Entry core.Waiting) (e' : Entry code.Waiting) → Entries sizes c p q e e' → Carries 2 (λ world. world) old new m c e e'
  carries zero c e e' h = tt
  carries (suc m) c e e' h = λ world.
      let more : (table : CallTable (List TypeId) Given) (e : Entry core.Waiting) (e' : Entry code.Waiting) → Entries sizes (with_table c table) p q e e' → Carries 2 (λ world. world) old new m (with_table c table) e e' =
      λ table e e' h. carries m (with_table c table) e e' h in
      record {
        forth = forth m c more world e e' h;
        back = λ k i. back_at m c more world e e' h k (execution new c k world e') refl i;
        between = between m c more world e e' h;
      }

  anew : (c : Context) (e : Entry core.Waiting) (e' : Entry code.Waiting) → Anew e e' → Entries sizes c p q e e'
  anew c (Begins method caller vs) e' h = h
  anew c (Resumes x given) e' h = absurd h
  anew c Saves e' h = h
  anew c (Starts kept upgraded) e' h = h

pub splitting_carries : SplittingCarries
splitting_carries p nested m c e e' h = carries p nested m c e e' (anew p nested c e e' h)
