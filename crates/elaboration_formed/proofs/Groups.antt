-- The groups of functions that elaboration makes are formed.
use Rattle.std.proofs.Common.{◌≡◌, ℕ, zero, suc, ◌+◌, ◌-◌, ◌<◌, ◌≤◌, Bool, true, false, List, [], ◌∷◌, ◌++◌, length, refl, sym, ap, ◌∙◌, subst, arith}
use Rattle.mo_num.specs.declared.kind.Kind.TheVariants as kind
use Rattle.mo_values.specs.declared.operation.Operation.TheVariants as op
use Rattle.core_ir.specs.Arities.{Takes, arity}
use Rattle.core_ir.specs.declared.primitive.Primitive.{Primitive}
use Rattle.core_ir.specs.declared.primitive.Primitive.TheVariants as primitive
use Rattle.core_ir.specs.Programs.{Group}
use Rattle.core_ir.specs.Expressions as core
use Rattle.core_ir.specs.Expressions.{Body}
use Rattle.core_ir.specs.Formed.{size_at, sees_at}
use Rattle.core_ir.specs.FormedExpressions.{count, FormedAll, FormedGoal}
use Rattle.typed_tree.specs.declared.action.Action.TheVariants as action
use Rattle.typed_tree.specs.declared.action.Member.{Member}
use Rattle.typed_tree.specs.declared.action.Member.TheVariants as member
use Rattle.typed_tree.specs.Language as source
use Rattle.typed_tree.specs.Language.{Exp, Exps, Cases, Functions, Val, Switch, While, Repeat, For, Update, NoCase, ACase, NoFunction, AFunction}
use Rattle.typed_tree.specs.Substitution.{count as count_functions}
use Rattle.elaboration.specs.Scopes.{Place, Scope, append, name, beside, inside, labelled, under, in_body}
use Rattle.elaboration.specs.Checks.{Named, check, behind}
use Rattle.elaboration.specs.Members.{Steps, Iterates, Over, Elements, Places, Characters, Elaborated, form_of, own_group, function_of, names_of, levels_from, first, second, nearest, element, place, next_by, next, iterator, amount, called}
use Rattle.elaboration.specs.Elaboration.{ManyElaborated, BodiesElaborated, elaborate, elaborate_operands, elaborate_names, elaborate_cases, elaborate_functions, number_of_parameters, on_nearest, on_parameters, count_of, loop_scope}
use Rattle.elaboration.specs.Programs.{own_from, kept_places, start_scope}
use Rattle.elaboration_forms.specs.Elaborates.{HasGroups, Stands, StandAll, StandNames, StandCases, StandFunctions}
use Rattle.elaboration_forms.proofs.Made.{elaborates_functions}
use Rattle.elaboration_formed.specs.Arities.{held, Shaped, ShapedAll, ShapedCases, ShapedFunctions}
use Rattle.elaboration_formed.specs.Formed.{PlacesFit, Fits, Formed, EachFormed, GroupsFormed}
use Rattle.elaboration_formed.proofs.Checking.{LevelsFit, checked}
use Rattle.elaboration_formed.proofs.Forming.{there, fits_beside, fits_inside, fits_labelled, fits_under, let_fits, turn_fits, body_fits, behind_fits, append_formed, append_count, bodies_formed, bodies_counted, fits_loop}

module _ (globals : ℕ) (table : List (Group Body)) where
  abbrev H : ℕ → List (Group Body) → Type 0
  H = HasGroups table

  -- those of two parts
  apart : (gs hs : List (Group Body)) (n : ℕ) → H n (gs ++ hs) → H n gs × H (n + length gs) hs
  apart [] hs n h = (tt, let z : n ≡ n + 0 = omega arith in subst (λ n. H n hs) z h)
  apart (g ∷ gs) hs n h =
      let r : H (suc n) gs × H (suc n + length gs) hs = apart gs hs (suc n) (h.1) in
      let z : suc n + length gs ≡ n + suc (length gs) = omega arith in
      ((h.0, r.0), subst (λ n. H n hs) z (r.1))

  abbrev F : ℕ → ℕ → core.Exp → Type 0
  F names labels c = Formed globals table false names labels c

  abbrev A : ℕ → core.Exps → Type 0
  A names cs = FormedAll (size_at table) (sees_at table) globals (length table) false names 0 cs

  abbrev GF : List (Group Body) → Type 0
  GF gs = GroupsFormed globals table gs

  both : (gs hs : List (Group Body)) → GF gs → GF hs → GF (gs ++ hs)
  both [] hs h k = k
  both (g ∷ gs) hs h k = (h.0, both gs hs h.1 k)

  -- ---- built-in functions as values

  names_formed : (n m : ℕ) (levels : List ℕ) → n ≤ m → LevelsFit globals table false n levels → A m (names_of m levels)
  names_formed n m [] q h = tt
  names_formed n m (l ∷ levels) q h = (omega (arith, q, h.0), names_formed n m levels q h.1)

  names_counted : (m : ℕ) (levels : List ℕ) → count (names_of m levels) ≡ length levels
  names_counted m [] = refl
  names_counted m (l ∷ levels) = ap suc (names_counted m levels)

  nearest_formed : (n i k : ℕ) → i + k ≤ n → A n (nearest i k)
  nearest_formed n i zero q = tt
  nearest_formed n i (suc k) q = (omega (arith, q), nearest_formed n (suc i) k (omega (arith, q)))

  nearest_counted : (i k : ℕ) → count (nearest i k) ≡ k
  nearest_counted i zero = refl
  nearest_counted i (suc k) = ap suc (nearest_counted (suc i) k)

  -- a body with so many parameters, in a group of one function
  in_one : (parameters names : ℕ) (c : core.Exp) → F (parameters + suc names) 0 c → F (parameters + (1 + names)) 0 c
  in_one parameters names c h = let z : parameters + suc names ≡ parameters + (1 + names) = omega arith in subst (λ n. F n 0 c) z h

  does_formed : (p : Primitive) (parameters names : ℕ) (levels : List ℕ) (k : ℕ) → Takes (arity p) k → length levels + parameters ≡ k → LevelsFit globals table false names levels
      → F (parameters + (1 + names)) 0 (core.Do (core.Operate p) (append (names_of (parameters + suc names) levels) (nearest 0 parameters)))
  does_formed p parameters names levels k t q l =
      let m = parameters + suc names in
      let x : count (names_of m levels) ≡ length levels = names_counted m levels in
      let y : count (nearest 0 parameters) ≡ parameters = nearest_counted 0 parameters in
      let z : count (append (names_of m levels) (nearest 0 parameters)) ≡ count (names_of m levels) + count (nearest 0 parameters) = append_count globals table (names_of m levels) (nearest 0 parameters) in
      let e : count (append (names_of m levels) (nearest 0 parameters)) ≡ k = omega (arith, x, y, z, q) in
      in_one parameters names (core.Do (core.Operate p) (append (names_of (parameters + suc names) levels) (nearest 0 parameters)))
      (subst (Takes (arity p)) (sym e) t, append_formed globals table false m 0 (names_of m levels) (nearest 0 parameters) (names_formed names m levels (omega arith) l) (nearest_formed m 0 parameters (omega arith)))

  abbrev G : ℕ → core.Goal → ℕ → Type 0
  G names g n = FormedGoal (size_at table) (sees_at table) globals (length table) false names 0 g n

  calls_formed : (g : core.Goal) (parameters names : ℕ) → G (parameters + suc names) g (count (nearest 0 parameters)) → F (parameters + (1 + names)) 0 (core.Do g (nearest 0 parameters))
  calls_formed g parameters names h = in_one parameters names (core.Do g (nearest 0 parameters)) (h, nearest_formed (parameters + suc names) 0 parameters (omega arith))

  -- `next` of an iterator
  element_formed : (b : Bool) (n : ℕ) (x y : core.Exp) → F n 0 x → F n 0 y → F n 0 (element b x y)
  element_formed true n x y h k = (refl, ((refl, (h, (k, tt))), tt))
  element_formed false n x y h k = (refl, (h, (k, tt)))

  place_formed : (n : ℕ) (x y : core.Exp) → F n 0 x → F n 0 y → F n 0 (place x y)
  place_formed n x y h k = k

  next_by_formed : (at : core.Exp → core.Exp → core.Exp) (n array cell : ℕ) → ((m : ℕ) (x y : core.Exp) → F m 0 x → F m 0 y → F m 0 (at x y)) → array < n → cell < n → F n 0 (next_by at n array cell)
  next_by_formed at n array cell h a c =
      let array_there : suc (suc n) - suc array < suc (suc n) = omega (arith, a) in
      let place_there : suc (suc n) - suc n < suc (suc n) = omega arith in (
        (
          refl,
          (
            (
              refl,
              refl,
              ((refl, (refl, (h (suc (suc n)) (name (suc (suc n)) array) (name (suc (suc n)) n) array_there place_there, tt))), ((refl, (omega (arith, c), ((refl, (omega arith, (tt, tt))), tt))), tt)),
              tt,
            ),
            ((refl, (omega arith, ((refl, (omega (arith, a), tt)), tt))), tt),
          ),
        ),
        ((refl, (omega (arith, c), tt)), tt),
      )

  next_formed : (over : Over) (names array cell : ℕ) → array < suc names → cell < suc names → F (0 + (1 + names)) 0 (next over (suc names) array cell)
  next_formed Elements names array cell a c =
      in_next names (next Elements (suc names) array cell) ((refl, refl, next_by_formed (element true) (suc names) array cell (λ m x y h k. element_formed true m x y h k) a c, next_by_formed (element false) (suc names) array cell (λ m x y h k. element_formed false m x y h k) a c), (omega (arith, a), tt))
    where
      in_next : (names : ℕ) (c : core.Exp) → F (suc names) 0 c → F (0 + (1 + names)) 0 c
      in_next names c h = let z : suc names ≡ 0 + (1 + names) = omega arith in subst (λ n. F n 0 c) z h
  next_formed Places names array cell a c =
      let z : suc names ≡ 0 + (1 + names) = omega arith in subst (λ n. F n 0 (next Places (suc names) array cell)) z (next_by_formed place (suc names) array cell (λ m x y h k. place_formed m x y h k) a c)
  next_formed Characters names array cell a c =
      let z : suc names ≡ 0 + (1 + names) = omega arith in subst (λ n. F n 0 (next Characters (suc names) array cell)) z (refl, (omega (arith, c), (omega (arith, a), tt)))

  iterator_formed : (over : Over) (names : ℕ) (levels : List ℕ) (n : ℕ) → H n (own_group (Steps over) (suc (suc names)) (first levels ∷ suc names ∷ []) 0 ∷ own_group (Iterates over) names levels n ∷ [])
      → F (0 + (1 + names)) 0 (iterator (suc names) (first levels) n)
  iterator_formed over names levels n h =
      let r = there table n (own_group (Steps over) (suc (suc names)) (first levels ∷ suc names ∷ []) 0) h.0 in
      let z : suc names ≡ 0 + (1 + names) = omega arith in
      subst (λ n'. F n' 0 (iterator (suc names) (first levels) n)) z
      (refl, (((refl, (r.0, r.1, (let y : size_at table n ≡ 1 = r.2 in omega (arith, y)))), ((refl, (tt, tt)), tt)), tt))

  first_there : (names : ℕ) (levels : List ℕ) → LevelsFit globals table false names levels → length levels ≡ 1 → first levels < suc (suc (suc names))
  first_there names [] l c = cc
  first_there names (x ∷ levels) l c = omega (arith, l.0)

  first_of_two : (names : ℕ) (levels : List ℕ) → LevelsFit globals table false names levels → length levels ≡ 2 → first levels < suc names
  first_of_two names [] l c = cc
  first_of_two names (x ∷ levels) l c = omega (arith, l.0)

  second_of_two : (names : ℕ) (levels : List ℕ) → LevelsFit globals table false names levels → length levels ≡ 2 → second levels < suc names
  second_of_two names [] l c = cc
  second_of_two names (x ∷ []) l c = cc
  second_of_two names (x ∷ y ∷ levels) l c = omega (arith, l.1.0)

  member_groups : (m : Member) (names : ℕ) (levels : List ℕ) (n : ℕ) → H n (function_of (form_of m) names levels n).groups → LevelsFit globals table false names levels → length levels ≡ held (form_of m) → GF (function_of (form_of m) names levels n).groups
  member_groups member.DebugPrint names levels n h l c = ((does_formed primitive.Print 1 names levels 1 refl (omega (arith, c)) l, tt), tt)
  member_groups member.DebugTrap names levels n h l c = ((does_formed (primitive.Operate op.Trap) 1 names levels 1 refl (omega (arith, c)) l, tt), tt)
  member_groups member.ErrorReject names levels n h l c = ((does_formed (primitive.Operate op.RejectError) 1 names levels 1 refl (omega (arith, c)) l, tt), tt)
  member_groups member.ErrorMessage names levels n h l c = ((does_formed (primitive.Operate op.Message) 1 names levels 1 refl (omega (arith, c)) l, tt), tt)
  member_groups member.ErrorCode names levels n h l c = ((does_formed (primitive.Operate op.Code) 1 names levels 1 refl (omega (arith, c)) l, tt), tt)
  member_groups member.NatToText names levels n h l c = ((does_formed (primitive.Operate (op.ToText kind.Nat)) 1 names levels 1 refl (omega (arith, c)) l, tt), tt)
  member_groups member.IntToText names levels n h l c = ((does_formed (primitive.Operate (op.ToText kind.Int)) 1 names levels 1 refl (omega (arith, c)) l, tt), tt)
  member_groups member.PrincipalFromActor names levels n h l c = ((does_formed (primitive.Operate op.PrincipalOf) 1 names levels 1 refl (omega (arith, c)) l, tt), tt)
  member_groups member.ArraySize names levels n h l c = ((does_formed (primitive.Operate op.ArraySize) 0 names levels 1 refl (omega (arith, c)) l, tt), tt)
  member_groups member.TextSize names levels n h l c = ((does_formed (primitive.Operate op.TextSize) 0 names levels 1 refl (omega (arith, c)) l, tt), tt)
  member_groups member.ArrayTabulate names levels n h l c = ((calls_formed core.Tabulate 2 names refl, tt), tt)
  member_groups member.ArrayInit names levels n h l c = ((calls_formed (core.Operate primitive.ArrayInit) 2 names refl, tt), tt)
  member_groups member.ArrayFreeze names levels n h l c = ((calls_formed (core.Operate primitive.ArrayFreeze) 1 names refl, tt), tt)
  member_groups member.ArrayThaw names levels n h l c = ((calls_formed (core.Operate primitive.ArrayThaw) 1 names refl, tt), tt)
  member_groups member.ArrayVals names levels n h l c = ((next_formed Elements (suc (suc names)) (first levels) (suc names) (first_there names levels l c) (omega arith), tt), ((iterator_formed Elements names levels n h, tt), tt))
  member_groups member.ArrayKeys names levels n h l c = ((next_formed Places (suc (suc names)) (first levels) (suc names) (first_there names levels l c) (omega arith), tt), ((iterator_formed Places names levels n h, tt), tt))
  member_groups member.TextChars names levels n h l c = ((next_formed Characters (suc (suc names)) (first levels) (suc names) (first_there names levels l c) (omega arith), tt), ((iterator_formed Characters names levels n h, tt), tt))
  member_groups member.NextVal names levels n h l c = ((next_formed Elements names (first levels) (second levels) (first_of_two names levels l c) (second_of_two names levels l c), tt), tt)
  member_groups member.NextKey names levels n h l c = ((next_formed Places names (first levels) (second levels) (first_of_two names levels l c) (second_of_two names levels l c), tt), tt)
  member_groups member.NextChar names levels n h l c = ((next_formed Characters names (first levels) (second levels) (first_of_two names levels l c) (second_of_two names levels l c), tt), tt)

  -- levels of names that come next
  levels_there : (k n : ℕ) → LevelsFit globals table false (k + n) (levels_from n k)
  levels_there zero n = tt
  levels_there (suc k) n = (omega arith, (let z : k + suc n ≡ suc k + n = omega arith in subst (λ m. LevelsFit globals table false m (levels_from (suc n) k)) z (levels_there k (suc n))))

  levels_counted : (k n : ℕ) → length (levels_from n k) ≡ k
  levels_counted zero n = refl
  levels_counted (suc k) n = ap suc (levels_counted k (suc n))

  made_groups : (m : Member) (k names n : ℕ) → k ≡ held (form_of m) → H n (function_of (form_of m) (k + names) (levels_from names k) n).groups → GF (function_of (form_of m) (k + names) (levels_from names k) n).groups
  made_groups m k names n q h = member_groups m (k + names) (levels_from names k) n h (levels_there k names) (levels_counted k names ∙ q)

  -- those of a call at once: none where it is one operation
  called_groups : (m : Member) (ds fs : core.Exps) (names n : ℕ) → amount ds ≡ held (form_of m) → H n (called (form_of m) ds fs names n).groups → GF (called (form_of m) ds fs names n).groups
  called_groups member.DebugPrint ds fs names n q h = tt
  called_groups member.DebugTrap ds fs names n q h = tt
  called_groups member.ErrorReject ds fs names n q h = tt
  called_groups member.ErrorMessage ds fs names n q h = tt
  called_groups member.ErrorCode ds fs names n q h = tt
  called_groups member.NatToText ds fs names n q h = tt
  called_groups member.IntToText ds fs names n q h = tt
  called_groups member.PrincipalFromActor ds fs names n q h = tt
  called_groups member.ArraySize ds fs names n q h = tt
  called_groups member.TextSize ds fs names n q h = tt
  called_groups member.ArrayTabulate ds fs names n q h = made_groups member.ArrayTabulate (amount ds) names n q h
  called_groups member.ArrayInit ds fs names n q h = made_groups member.ArrayInit (amount ds) names n q h
  called_groups member.ArrayFreeze ds fs names n q h = made_groups member.ArrayFreeze (amount ds) names n q h
  called_groups member.ArrayThaw ds fs names n q h = made_groups member.ArrayThaw (amount ds) names n q h
  called_groups member.ArrayVals ds fs names n q h = made_groups member.ArrayVals (amount ds) names n q h
  called_groups member.ArrayKeys ds fs names n q h = made_groups member.ArrayKeys (amount ds) names n q h
  called_groups member.TextChars ds fs names n q h = made_groups member.TextChars (amount ds) names n q h
  called_groups member.NextVal ds fs names n q h = made_groups member.NextVal (amount ds) names n q h
  called_groups member.NextKey ds fs names n q h = made_groups member.NextKey (amount ds) names n q h
  called_groups member.NextChar ds fs names n q h = made_groups member.NextChar (amount ds) names n q h

  -- ---- expressions

  operands_counted : (s : Scope) (n : ℕ) (es : Exps) → amount (elaborate_operands s n es).exps ≡ count_of es
  operands_counted s n source.NoExp = refl
  operands_counted s n (source.AnExp e es) = ap suc (operands_counted s (n + length (elaborate s n e).groups) es)

  mutual
    pub groups : (b : Bool) (s : Scope) (n : ℕ) (e : Exp) → Stands b s e → H n (elaborate s n e).groups → Fits globals s → Shaped e → GF (elaborate s n e).groups
    groups b s n (Val v) t h f k = tt
    groups b s n (source.Name x) t h f k = tt
    groups b s n (source.Do action.Call (source.AnExp (source.Do (action.BuiltIn m) es) args)) t h f k =
        let d : ManyElaborated = elaborate_operands s n es in
        let e : ManyElaborated = elaborate_operands s (n + length d.groups) args in
        let j : ℕ = n + length d.groups + length e.groups in
        let c : Elaborated = called (form_of m) d.exps e.exps s.names j in
        let x = apart d.groups (e.groups ++ c.groups) n h in
        let y = apart e.groups c.groups (n + length d.groups) x.1 in
        both d.groups (e.groups ++ c.groups) (all_groups b s n es t.0 x.0 f k.2.0.2)
        (both e.groups c.groups (all_groups b s (n + length d.groups) args t.1 y.0 f k.2.1) (called_groups m d.exps e.exps s.names j (operands_counted s n es ∙ k.2.0.0) y.1))
    groups b s n (source.Do (action.BuiltIn m) es) t h f k =
        let d : ManyElaborated = elaborate_names s n es in
        let c : Elaborated = function_of (form_of m) (count_of es + s.names) (levels_from s.names (count_of es)) (n + length d.groups) in
        let x = apart d.groups c.groups n h in
        both d.groups c.groups (names_groups b s n es t.0 x.0 f k.2) (made_groups m (count_of es) s.names (n + length d.groups) k.0 x.1)
    groups b s n (source.Do a es) t h f k = all_groups b s n es t.1 h f k.2
    groups b s n (source.If x a e) t h f k =
        let p : Elaborated = elaborate s n x in
        let q : Elaborated = elaborate s (n + length p.groups) a in
        let r : Elaborated = elaborate s (n + length p.groups + length q.groups) e in
        let i = apart p.groups (q.groups ++ r.groups) n h in
        let j = apart q.groups r.groups (n + length p.groups) (i.1) in
        both p.groups (q.groups ++ r.groups) (groups b s n x t.0 i.0 f k.0) (both q.groups r.groups (groups b s (n + length p.groups) a t.1 j.0 f k.1) (groups b s (n + length p.groups + length q.groups) e t.2 j.1 f k.2))
    groups b s n (Switch e (ACase p d NoCase)) t h f k =
        let x : Elaborated = elaborate s n e in
        let y : Elaborated = elaborate (behind (on_nearest p s) s) (n + length x.groups) d in
        let i = apart x.groups y.groups n h in
        both x.groups y.groups (groups b s n e t.0 i.0 f k.0) (groups b (behind (on_nearest p s) s) (n + length x.groups) d t.1 i.1 (let_fits globals table b s p f) k.1.0)
    groups b s n (Switch e cases) t h f k =
        let x : Elaborated = elaborate s n e in
        let y : Elaborated = elaborate_cases s.names (inside (beside 1 s)) (n + length x.groups) cases in
        let i = apart x.groups y.groups n h in
        both x.groups y.groups (groups b s n e t.0 i.0 f k.0) (cases_groups b s.names (inside (beside 1 s)) (n + length x.groups) cases t.1 i.1 (omega arith) (fits_inside globals (beside 1 s) (fits_beside globals 1 s f)) k.1)
    groups b s n (source.Group fns d) t h f k =
        let u : Scope = under (count_functions fns) s in
        let g : BodiesElaborated = elaborate_functions u n fns in
        let x : Elaborated = elaborate u (suc (n + length g.groups)) d in
        let i = apart g.groups (record { sees = s.names; bodies = g.bodies } ∷ x.groups) n h in
        let c = elaborates_functions table u n fns t.0 i.0 in
        let v : Fits globals u = fits_under globals (count_functions fns) s f in
        both g.groups (record { sees = s.names; bodies = g.bodies } ∷ x.groups) (functions_groups u n fns t.0 i.0 v k.0)
        (subst (λ m. EachFormed globals table (m + s.names) g.bodies) (sym (bodies_counted globals table u fns g.bodies c)) (bodies_formed globals table u fns g.bodies c v k.0), groups b u (suc (n + length g.groups)) d t.1 i.1.1 v k.1)
    groups b s n (source.Frame nodes e) t h f k = absurd t
    groups b s n (source.Label e) t h f k = groups b (labelled s) n e t h (fits_labelled globals s f) k
    groups b s n (While c d) t h f k =
        let x : Elaborated = elaborate (inside s) n c in
        let y : Elaborated = elaborate (beside 1 (loop_scope c s)) (n + length x.groups) d in
        let i = apart x.groups y.groups n h in
        both x.groups y.groups (groups b (inside s) n c t.0 i.0 (fits_inside globals s f) k.0) (groups b (beside 1 (loop_scope c s)) (n + length x.groups) d t.1 i.1 (fits_beside globals 1 (loop_scope c s) (fits_loop globals c s f)) k.1)
    groups b s n (Repeat d c) t h f k =
        let x : Elaborated = elaborate (inside s) n d in
        let y : Elaborated = elaborate (beside 1 (inside s)) (n + length x.groups) c in
        let i = apart x.groups y.groups n h in
        both x.groups y.groups (groups b (inside s) n d t.0 i.0 (fits_inside globals s f) k.0) (groups b (beside 1 (inside s)) (n + length x.groups) c t.1 i.1 (fits_beside globals 1 (inside s) (fits_inside globals s f)) k.1)
    groups b s n (For p e d) t h f k =
        let x : Elaborated = elaborate s n e in
        let y : Elaborated = elaborate (inside (behind (on_nearest p (beside 1 s)) s)) (n + length x.groups) d in
        let i = apart x.groups y.groups n h in
        both x.groups y.groups (groups b s n e t.0 i.0 f k.0) (groups b (inside (behind (on_nearest p (beside 1 s)) s)) (n + length x.groups) d t.1 i.1 (turn_fits globals table b s p f) k.1)
    groups b s n (source.Try e p d) t h f k =
        let x : Elaborated = elaborate s n e in
        let y : Elaborated = elaborate (behind (on_nearest p s) s) (n + length x.groups) d in
        let i = apart x.groups y.groups n h in
        both x.groups y.groups (groups b s n e t.1 i.0 f k.0) (groups b (behind (on_nearest p s) s) (n + length x.groups) d t.2 i.1 (let_fits globals table b s p f) k.1)
    groups b s n (Update o e g) t h f k =
        let x : Elaborated = elaborate s n e in
        let y : Elaborated = elaborate (beside 1 s) (n + length x.groups) g in
        let i = apart x.groups y.groups n h in
        both x.groups y.groups (groups b s n e t.0 i.0 f k.1) (groups b (beside 1 s) (n + length x.groups) g t.1 i.1 (fits_beside globals 1 s f) k.2)

    all_groups : (b : Bool) (s : Scope) (n : ℕ) (es : Exps) → StandAll b s es → H n (elaborate_operands s n es).groups → Fits globals s → ShapedAll es → GF (elaborate_operands s n es).groups
    all_groups b s n source.NoExp t h f k = tt
    all_groups b s n (source.AnExp e es) t h f k =
        let d : Elaborated = elaborate s n e in
        let r : ManyElaborated = elaborate_operands s (n + length d.groups) es in
        let i = apart d.groups r.groups n h in
        both d.groups r.groups (groups b s n e t.0 i.0 f k.0) (all_groups b s (n + length d.groups) es t.1 i.1 f k.1)

    names_groups : (b : Bool) (s : Scope) (n : ℕ) (es : Exps) → StandNames b s es → H n (elaborate_names s n es).groups → Fits globals s → ShapedAll es → GF (elaborate_names s n es).groups
    names_groups b s n source.NoExp t h f k = tt
    names_groups b s n (source.AnExp e es) t h f k =
        let d : Elaborated = elaborate s n e in
        let r : ManyElaborated = elaborate_names (beside 1 s) (n + length d.groups) es in
        let i = apart d.groups r.groups n h in
        both d.groups r.groups (groups b s n e t.0 i.0 f k.0) (names_groups b (beside 1 s) (n + length d.groups) es t.1 i.1 (fits_beside globals 1 s f) k.1)

    cases_groups : (b : Bool) (level : ℕ) (s : Scope) (n : ℕ) (cases : Cases) → StandCases b level s cases → H n (elaborate_cases level s n cases).groups → level < s.names → Fits globals s → ShapedCases cases → GF (elaborate_cases level s n cases).groups
    cases_groups b level s n NoCase t h v f k = tt
    cases_groups b level s n (ACase p e cases) t h v f k =
        let u : Scope = behind (check p (Named level) s.names) s in
        let x : Elaborated = elaborate u n e in
        let y : Elaborated = elaborate_cases level (beside 1 s) (n + length x.groups) cases in
        let i = apart x.groups y.groups n h in
        let g = checked globals table b p (Named level) s.names v in
        both x.groups y.groups (groups b u n e t.0 i.0 (behind_fits globals table b s u (check p (Named level) s.names).bound (check p (Named level) s.names).names g.leads.more g.levels refl refl refl refl f) k.0)
        (cases_groups b level (beside 1 s) (n + length x.groups) cases t.1 i.1 (omega (arith, v)) (fits_beside globals 1 s f) k.1)

    pub functions_groups : (s : Scope) (n : ℕ) (fns : Functions) → StandFunctions s fns → H n (elaborate_functions s n fns).groups → Fits globals s → ShapedFunctions fns → GF (elaborate_functions s n fns).groups
    functions_groups s n NoFunction t h f k = tt
    functions_groups s n (AFunction how nodes ps body fns) t h f k =
        let u : Scope = behind (on_parameters ps s) (in_body (number_of_parameters ps) s) in
        let x : Elaborated = elaborate u n body in
        let r : BodiesElaborated = elaborate_functions s (n + length x.groups) fns in
        let i = apart x.groups r.groups n h in
        both x.groups r.groups (groups false u n body t.0 i.0 (body_fits globals table false s ps f) k.0) (functions_groups s (n + length x.groups) fns t.1 i.1 f k.1)

-- ---- the scope of a start

module _ (globals : ℕ) where
  own_fits : (names i n : ℕ) → i + n ≤ globals → PlacesFit globals names (own_from i n)
  own_fits names i zero h = tt
  own_fits names i (suc n) h = (omega (arith, h), own_fits names (suc i) n (omega (arith, h)))

  kept_fits : (names n : ℕ) → n < names → PlacesFit globals names (kept_places n)
  kept_fits names zero h = tt
  kept_fits names (suc n) h = (h, kept_fits names n (omega (arith, h)))

  both_fit : (names : ℕ) (ps qs : List Place) → PlacesFit globals names ps → PlacesFit globals names qs → PlacesFit globals names (ps ++ qs)
  both_fit names [] qs h k = k
  both_fit names (p ∷ ps) qs h k = (h.0, both_fit names ps qs h.1 k)

  pub start_fits : (methods kept : ℕ) → suc methods ≤ globals → Fits globals (start_scope methods kept)
  start_fits methods kept h = record { places = both_fit (suc kept) (own_from 0 (suc methods)) (kept_places kept) (own_fits (suc kept) 0 (suc methods) (omega (arith, h))) (kept_fits (suc kept) kept (omega arith)); exits = tt }
