-- The function that splits a program makes what the relation asks.
use Rattle.std.proofs.Common.{◌≡◌, ℕ, zero, suc, ◌+◌, refl, sym, ap, ◌∙◌, subst, List, [], ◌∷◌, ◌++◌, length, map, Some, None}
use Rattle.std.specs.Prelude.{slice_get, slice_set}
use Rattle.std.proofs.lemmas.List.{length-map}
use Rattle.core_ir.specs.declared.code.Operand.{Operand}
use Rattle.core_ir.specs.Programs.{Group, Method}
use Rattle.core_ir.specs.Expressions as exp
use Rattle.core_ir.specs.Expressions.{Exp, Constant?, Name, Do, Exps, NoExp, AnExp, Goal, Core}
use Rattle.core_ir.specs.Code as instr
use Rattle.core_ir.specs.Code.{Code, Stop, Let, If, Match, Loop, Label, Branch, Leave, Pass, Make, Call, Tabulate, Send, Wait, Raise, Return, CodeProgram}
use Rattle.core_laws.specs.Slots.{slots_from, members_from, captured_from}
use Rattle.core_laws.specs.Splits.{Splits, SplitsBody}
use Rattle.core_ir.specs.CodeMachine.{first_of}
use Rattle.core_laws.specs.Split.{Emitted, code_or_stop, split_exp, split_body, split_group, split_method, split_program, size_at}
use Rattle.core_laws.specs.Splits.{SplitsGroup, SplitsMethod, SplitsProgram}
use Rattle.core_laws.proofs.ConvertedStates.{mapped, got}
use Rattle.core_laws.proofs.SoundSplitting.{sound, keeps, set_same, set_other}

there_mapped : {A B : Type 0} (f : A → B) (xs : List A) (n : ℕ) (a : A) → slice_get xs n ≡ Some a → slice_get (map f xs) n ≡ Some (f a)
there_mapped f xs n a e = got f xs n ∙ ap (mapped f) e

first_get : (cs : List Code) (c : Code) → slice_get cs 0 ≡ Some c → first_of cs ≡ c
first_get [] c e = absurd (let z : None ≡ Some c = e in cc)
first_get (d ∷ cs) c e = let z : d ≡ c = cc in z

module _ (sizes : ℕ → ℕ) where
  module _ (k seen : ℕ) (f : exp.Body) where
    abbrev whole : Exp
    whole = Do exp.Return (AnExp f.expression NoExp)

    abbrev ns : List Operand
    ns = slots_from 0 f.parameters ++ (members_from 0 k ++ captured_from 0 seen)

    abbrev result : Emitted
    result = split_exp sizes whole None f.parameters ns [] Stop (None ∷ [])

    abbrev final : List Code
    final = map code_or_stop (slice_set (result.segments) 0 (Some (result.code)))

    kept : slice_get (result.segments) 0 ≡ Some None
    kept = keeps sizes whole None f.parameters ns [] Stop (None ∷ []) 0 None refl

    there : (j : ℕ) (c : Code) → slice_get (result.segments) j ≡ Some (Some c) → slice_get final j ≡ Some c
    there j c e =
        got code_or_stop (slice_set (result.segments) 0 (Some (result.code))) j ∙ ap (mapped code_or_stop) (set_other (result.segments) 0 j (Some (result.code)) (λ i. let z : Some (Some c) ≡ Some None = sym e ∙ ap (slice_get (result.segments)) i ∙ kept in cc) ∙ e)

    start : first_of final ≡ result.code
    start =
        first_get final (result.code) (got code_or_stop (slice_set (result.segments) 0 (Some (result.code))) 0 ∙ ap (mapped code_or_stop) (set_same (result.segments) 0 None (Some (result.code)) kept))

    pub body_splits : SplitsBody sizes k seen f (split_body sizes k seen f)
    body_splits =
        record { parameters = refl; nodes = refl; body = subst (λ d. Splits sizes final whole None f.parameters ns [] Stop d) (sym start) ((sound sizes final whole None f.parameters ns [] Stop (None ∷ []) there (λ i. tt) tt tt).0) }

  nodes_same : (k seen : ℕ) (fs : List exp.Body) → instr.nodes_of (map (split_body sizes k seen) fs) ≡ exp.nodes_of fs
  nodes_same k seen [] = refl
  nodes_same k seen (f ∷ fs) = ap (λ n. f.nodes + n) (nodes_same k seen fs)

  pub group_splits : (g : (Group exp.Body)) → SplitsGroup sizes g (split_group sizes g)
  group_splits g =
      record { same = length-map g.bodies (split_body sizes (length g.bodies) g.sees); nodes = nodes_same (length g.bodies) g.sees g.bodies; bodies = λ m f e. (split_body sizes (length g.bodies) g.sees f, there_mapped (split_body sizes (length g.bodies) g.sees) g.bodies m f e, body_splits (length g.bodies) g.sees f) }

size_is : (gs : List (Group exp.Body)) (k : ℕ) (g : (Group exp.Body)) → slice_get gs k ≡ Some g → size_at gs k ≡ length g.bodies
size_is [] k g e = absurd (let z : None ≡ Some g = e in cc)
size_is (x ∷ gs) zero g e = let z : x ≡ g = cc in ap (λ (g : (Group exp.Body)). length g.bodies) z
size_is (x ∷ gs) (suc k) g e = size_is gs k g e

method_splits : (sizes : ℕ → ℕ) (m : Method exp.Body) → SplitsMethod sizes m (split_method sizes m)
method_splits sizes m = record { name = refl; query = refl; signature = refl; body = body_splits sizes 0 0 m.body }

pub program_splits : (p : Core) → SplitsProgram (size_at p.groups) p (split_program p)
program_splits p =
    let n = size_at p.groups in
    record {
      head = refl;
      stable = refl;
      sizes = λ k g e. size_is p.groups k g e;
      groups = λ k g e. (split_group n g, there_mapped (split_group n) p.groups k g e, group_splits n g);
      methods = λ k m e. (split_method n m, there_mapped (split_method n) p.methods k m e, method_splits n m);
      as_many = length-map p.methods (split_method n);
      save = body_splits n 0 0 p.save;
      start = body_splits n 0 0 p.start;
    }
