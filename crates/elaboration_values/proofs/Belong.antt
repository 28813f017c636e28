-- Operations and patterns do alike on values that belong together.
use Rattle.std.proofs.Common.{◌≡◌, ℕ, zero, suc, List, [], ◌∷◌, ◌++◌, Option, Some, None, slice_get, refl, sym, ap, ◌∙◌, subst}
use Rattle.mo_types.specs.Heads.{map_option}
use Rattle.mo_values.specs.Alike.{AlikeAll}
use Rattle.mo_values.specs.Recoding.{recodes}
use Rattle.mo_values.specs.Shapes.{Shapes, Made, Function, NoShape, AShape}
use Rattle.mo_values.proofs.Alike.{alike_answers, alike_costs}
use Rattle.core_ir.specs.Values as core
use Rattle.core_ir.specs.Values.{Handle}
use Rattle.typed_tree.specs.Patterns.{Found, matches}
use Rattle.typed_tree.specs.PatternWeights.{pattern_weight}
use Rattle.typed_tree.proofs.Natural.{matches_same}
use Rattle.typed_tree.proofs.Weights.{weight_same}
use Rattle.mo_machine.specs.Values.{Value, Code}
use Rattle.mo_machine.specs.Environments.{extended}
use Rattle.elaboration.specs.Scopes.{Place, Local, Own, Nowhere, place_or_nowhere}
use Rattle.elaboration.specs.Checks.{locals}
use Rattle.elaboration.specs.Meeting.{Extends}
use Rattle.elaboration_values.specs.Belonging.{Known, code_in, code_of, Names, AlikeFound, StandsAt, EnvironmentBelongs, NamesExtend, OperationsBelong, PatternsBelong, ValuesStay}
use Rattle.mo_values.proofs.Alike.{Pair, left, right, joint, each_apart}

abbrev some_part : Value → Option Value → Value
some_part d None = d
some_part d (Some a) = a

some_same : (a u : Value) → Some a ≡ Some u → a ≡ u
some_same a u e = ap (some_part a) e

module _ (known : List Known) where
  pub operations : OperationsBelong known
  operations head o vs ws a = (alike_answers (Names known) head o vs ws a, alike_costs (Names known) head o vs ws a)

  found_apart : (o : Found (Pair (Names known))) → AlikeFound known (map_option (recodes (left (Names known))) o) (map_option (recodes (right (Names known))) o)
  found_apart None = tt
  found_apart (Some us) = each_apart (Names known) us

  pub patterns : PatternsBelong known
  patterns p v w a =
      let j = joint (Names known) v w a in (
        subst (λ o. AlikeFound known o (matches p w)) (sym (matches_same (left (Names known)) p j.0) ∙ ap (λ x. matches p x) j.1)
            (subst (λ o. AlikeFound known (map_option (recodes (left (Names known))) (matches p j.0)) o) (sym (matches_same (right (Names known)) p j.0) ∙ ap (λ x. matches p x) j.2)
            (found_apart (matches p j.0))),
        ap (λ x. pattern_weight p x) (sym j.1) ∙ (weight_same (left (Names known)) p j.0 ∙ (sym (weight_same (right (Names known)) p j.0) ∙ ap (λ x. pattern_weight p x) j.2)),
      )

  module _ (globals : List core.Value) where
    stands_more : (env env' : List core.Value) (place : Place) (v : Value) → Extends env env' → StandsAt known globals env place v → StandsAt known globals env' place v
    stands_more env env' (Local level) v x s = (s.0, x level (s.0) (s.1), s.2)
    stands_more env env' (Own i) v x s = s
    stands_more env env' Nowhere v x s = s

    pub names_extend : NamesExtend known globals
    names_extend places environment env env' [] [] ws h x r b = λ i v e. stands_more env env' (place_or_nowhere (slice_get places i)) v x (h i v e)
    names_extend places environment env env' [] (v ∷ vs) [] h x r b = absurd b
    names_extend places environment env env' [] (v ∷ vs) (w ∷ ws) h x r b = absurd r
    names_extend places environment env env' (l ∷ bound) [] [] h x r b = absurd r
    names_extend places environment env env' (l ∷ bound) [] (w ∷ ws) h x r b = absurd b
    names_extend places environment env env' (l ∷ bound) (v ∷ vs) [] h x r b = absurd r
    names_extend places environment env env' (l ∷ bound) (v ∷ vs) (w ∷ ws) h x r b = each (names_extend places environment env env' bound vs ws h x (r.1) (b.1))
      where
        each : EnvironmentBelongs known globals (locals bound ++ places) (extended vs environment) env' → EnvironmentBelongs known globals (Local l ∷ (locals bound ++ places)) (extended (v ∷ vs) environment) env'
        each others zero u e = subst (λ u. StandsAt known globals env' (Local l) u) (some_same v u e) (w, r.0, b.0)
        each others (suc i) u e = others i u e

-- ---- further groups

get_more : {A : Type 0} (xs ys : List A) (i : ℕ) (a : A) → slice_get xs i ≡ Some a → slice_get (xs ++ ys) i ≡ Some a
get_more [] ys i a h = absurd (let z : None ≡ Some a = h in cc)
get_more (x ∷ xs) ys zero a h = h
get_more (x ∷ xs) ys (suc i) a h = get_more xs ys i a h

code_more : (known more : List Known) (code : Code) (h : Handle) (o : Option Known) → slice_get known h.group ≡ o → code_in o h.member ≡ Some code → code_of (known ++ more) h ≡ Some code
code_more known more code h None e a = absurd (let z : None ≡ Some code = a in cc)
code_more known more code h (Some k) e a = ap (λ o. code_in o h.member) (get_more known more h.group k e) ∙ a

mutual
  pub stay : ValuesStay
  stay known more (Made head vs) (Made other ws) a = (a.0, stay_all known more vs ws (a.1))
  stay known more (Made head vs) (Function g) a = absurd a
  stay known more (Function f) (Made other ws) a = absurd a
  stay known more (Function f) (Function g) a = code_more known more f g (slice_get known g.group) refl a

  stay_all : (known more : List Known) (vs : Shapes Code) (ws : Shapes Handle) → AlikeAll (Names known) vs ws → AlikeAll (Names (known ++ more)) vs ws
  stay_all known more NoShape NoShape a = tt
  stay_all known more NoShape (AShape w ws) a = absurd a
  stay_all known more (AShape v vs) NoShape a = absurd a
  stay_all known more (AShape v vs) (AShape w ws) a = (stay known more v w (a.0), stay_all known more vs ws (a.1))
