-- The laws of both passes on actors.
use Rattle.std.proofs.Common.{◌≡◌, ℕ, suc, refl, ◌∙◌, subst, sym, List, [], ◌∷◌, map, Bool, arith as arithmetic}
use Rattle.mo_values.specs.Shapes.{Bytes}
use Rattle.core_ir.specs.Programs.{Method}
use Rattle.core_ir.specs.Executions.{Entry, Begins, Resumes, Saves, Starts}
use Rattle.core_ir.specs.Expressions.{Core}
use Rattle.core_ir.specs.CoreMachine.{core_machine}
use Rattle.core_ir.specs.Code.{CodeProgram}
use Rattle.core_ir.specs.CodeMachine.{code_machine}
use Rattle.core_ir.specs.Actor.{entry_of, method_from, outer_names}
use Rattle.core_laws.specs.Carried.{Anew}
use Rattle.core_laws.specs.Conversion.{convert_method, convert_program}
use Rattle.core_laws.specs.Converted.{world_as}
use Rattle.core_laws.specs.Followed.{Moves, SameOutside}
use Rattle.core_laws.specs.Laws.{SplittingFollows, ConversionFollows, PassesCarry, PassesFollow, flattened, needed}
use Rattle.core_laws.specs.Split.{split_method, split_program, size_at}
use Rattle.core_laws.specs.Uses.{needs_of}
use Rattle.core_laws.proofs.ActorsFollow.{followed}
use Rattle.core_laws.proofs.Composition.{composed}
use Rattle.core_laws.proofs.ConversionLaw.{conversion_carries}
use Rattle.core_laws.proofs.OrderedSplits.{ordered_splits}
use Rattle.core_laws.proofs.SplittingLaw.{splitting_carries}

-- ---- methods whose bodies alone change

module _ {B C : Type 0} (f : Method B → Method C) (name : (m : Method B) → (f m).name ≡ m.name) (query : (m : Method B) → (f m).query ≡ m.query) (signature : (m : Method B) → (f m).signature ≡ m.signature) where
  names_are : (own : Bytes) (ms : List (Method B)) → outer_names own (map f ms) ≡ outer_names own ms
  names_are own [] = refl
  names_are own (m ∷ ms) = cc (name m, names_are own ms)

  entry_is : (place : ℕ) (m : Method B) → entry_of place (f m) ≡ entry_of place m
  entry_is place m = cc (signature m)

  methods_are : (place : ℕ) (asked : Bool) (wanted : Bytes) (ms : List (Method B)) → method_from place asked wanted (map f ms) ≡ method_from place asked wanted ms
  methods_are place asked wanted [] = refl
  methods_are place asked wanted (m ∷ ms) = cc (name m, query m, entry_is place m, methods_are (suc place) asked wanted ms)

moves_id : Moves (λ world. world)
moves_id = record { requests = λ w. refl; later = λ w. refl; first = refl }

moves_as : (needs : List (List ℕ)) → Moves (world_as needs)
moves_as needs = record { requests = λ w. refl; later = λ w. refl; first = refl }

split_outside : (p : Core) → SameOutside p (split_program p)
split_outside p =
    record {
      head = refl;
      names = λ own. names_are (split_method (size_at p.groups)) (λ m. refl) (λ m. refl) (λ m. refl) own p.methods;
      methods = λ query name. methods_are (split_method (size_at p.groups)) (λ m. refl) (λ m. refl) (λ m. refl) 0 query name p.methods;
      stable = refl;
    }

convert_outside : (p : CodeProgram) → SameOutside p (convert_program p)
convert_outside p =
    record {
      head = refl;
      names = λ own. names_are (convert_method (needs_of [] p.groups)) (λ m. refl) (λ m. refl) (λ m. refl) own p.methods;
      methods = λ query name. methods_are (convert_method (needs_of [] p.groups)) (λ m. refl) (λ m. refl) (λ m. refl) 0 query name p.methods;
      stable = refl;
    }

outside_both : (p : Core) → SameOutside p (flattened p)
outside_both p =
    let a = split_outside p in
    let b = convert_outside (split_program p) in
    record { head = b.head ∙ a.head; names = λ own. b.names own ∙ a.names own; methods = λ query name. b.methods query name ∙ a.methods query name; stable = b.stable ∙ a.stable }

pub splitting_follows : (K : Type 0) → SplittingFollows K
splitting_follows K p nested messages own =
    followed 2 (omega arithmetic) (λ world. world) moves_id (core_machine p) (code_machine (split_program p)) messages p (split_program p) (split_outside p) (λ m c e e' h. splitting_carries p nested m c e e' h) own

pub conversion_follows : (K : Type 0) → ConversionFollows K
conversion_follows K p ordered messages own =
    followed 1 (omega arithmetic) (world_as (needs_of [] p.groups)) (moves_as (needs_of [] p.groups)) (code_machine p) (code_machine (convert_program p)) messages p (convert_program p) (convert_outside p)
    (λ m c e e' h. conversion_carries p ordered m c e e' h) own

-- ---- both passes together

itself : {V W : Type 0} (e : Entry V) (e' : Entry W) → Anew e e' → Anew e' e'
itself (Begins m caller vs) e' h = subst (λ e'. Anew e' e') (sym h) refl
itself (Resumes x given) e' h = absurd h
itself Saves e' h = subst (λ e'. Anew e' e') (sym h) refl
itself (Starts kept upgraded) e' h = subst (λ e'. Anew e' e') (sym h) refl

pub passes_carry : PassesCarry
passes_carry p nested makes m c e e' h =
    composed _ _ _ _ _ _ 2 (world_as (needed p)) (core_machine p) (code_machine (split_program p)) (code_machine (flattened p)) m c e e' e'
    (splitting_carries p nested m c e e' h) (conversion_carries (split_program p) (ordered_splits p makes) m c e' e' (itself e e' h))

pub passes_follow : (K : Type 0) → PassesFollow K
passes_follow K p nested makes messages own =
    followed 2 (omega arithmetic) (world_as (needed p)) (moves_as (needed p)) (core_machine p) (code_machine (flattened p)) messages p (flattened p) (outside_both p) (λ m c e e' h. passes_carry p nested makes m c e e' h) own
