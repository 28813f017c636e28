-- Which groups expressions make.
use Rattle.std.proofs.Common.{◌≡◌, ℕ, suc, ◌+◌, ◌<◌, ◌≤◌, true, false, List, [], ◌∷◌, ◌++◌, length, subst, arith}
use Rattle.mo_types.specs.declared.datum.Datum.{Datum}
use Rattle.mo_types.specs.declared.datum.Datum.TheVariants as part
use Rattle.mo_values.specs.Shapes.{Bytes}
use Rattle.core_ir.specs.Programs.{Group}
use Rattle.core_ir.specs.Expressions as core
use Rattle.core_ir.specs.Expressions.{Exp, Constant?, Name, Do, Functions, Try, Exps, NoExp, AnExp, Goal, Body}
use Rattle.core_laws.specs.Makes.{Makes, MakesAll, MakesGoal, MakesBodies, MakesGroups}
use Rattle.typed_tree.specs.Patterns as pattern
use Rattle.typed_tree.specs.Patterns.{Pat, Pats, Wildcard, Constant, Present?, Tagged, Parts, Fields, Either, NoPat, APat}
use Rattle.elaboration.specs.Checks.{Check, Load, Opens, IsNull, Holds, Source, Named, Part, value_of, loads, level_of, names_with, part_of, field_of, literal, flag, truth, either, check, check_parts, check_fields, check_all, around_all}

abbrev pub Below : ℕ → Exp → Type 0
Below n e = Makes (λ k. k < n) e

abbrev pub AllBelow : ℕ → Exps → Type 0
AllBelow n es = MakesAll (λ k. k < n) es

mutual
  pub more : (m n : ℕ) → m ≤ n → (e : Exp) → Below m e → Below n e
  more m n h (Constant? c) a = tt
  more m n h (Name x) a = tt
  more m n h (core.Global i) a = tt
  more m n h (Do goal es) a = (more_goal m n h goal (a.0), more_all m n h es (a.1))
  more m n h (Functions k b) a = (omega (arith, h, a.0), more m n h b (a.1))
  more m n h (core.Loop b) a = more m n h b a
  more m n h (core.Label b) a = more m n h b a
  more m n h (Try b d) a = (more m n h b (a.0), more m n h d (a.1))

  pub more_all : (m n : ℕ) → m ≤ n → (es : Exps) → AllBelow m es → AllBelow n es
  more_all m n h NoExp a = tt
  more_all m n h (AnExp e es) a = (more m n h e (a.0), more_all m n h es (a.1))

  more_goal : (m n : ℕ) → m ≤ n → (g : Goal) → MakesGoal (λ k. k < m) g → MakesGoal (λ k. k < n) g
  more_goal m n h (core.Operate p) a = tt
  more_goal m n h (core.Choose p x y) a = (more m n h x (a.0), more m n h y (a.1))
  more_goal m n h (core.Match c x y) a = (more m n h x (a.0), more m n h y (a.1))
  more_goal m n h (core.Bind b) a = more m n h b a
  more_goal m n h core.Call a = tt
  more_goal m n h core.Tabulate a = tt
  more_goal m n h (core.Send s) a = tt
  more_goal m n h core.Throw a = tt
  more_goal m n h core.Await a = tt
  more_goal m n h (core.Break l) a = tt
  more_goal m n h core.Return a = tt

pub more_bodies : (m n : ℕ) → m ≤ n → (bs : List Body) → MakesBodies m bs → MakesBodies n bs
more_bodies m n h [] a = tt
more_bodies m n h (b ∷ bs) a = (more m n h b.expression (a.0), more_bodies m n h bs (a.1))

pub groups_and : (gs hs : List (Group Body)) (n : ℕ) → MakesGroups n gs → MakesGroups (n + length gs) hs → MakesGroups n (gs ++ hs)
groups_and [] hs n a b = let z : n + 0 ≡ n = omega arith in subst (λ n. MakesGroups n hs) z b
groups_and (g ∷ gs) hs n a b =
    let z : n + suc (length gs) ≡ suc n + length gs = omega arith in
    (a.0, groups_and gs hs (suc n) (a.1) (subst (λ n. MakesGroups n hs) z b))

-- ---- checks make none

abbrev pub CheckBelow : ℕ → Check → Type 0
CheckBelow n (Load e) = Below n e
CheckBelow n (Opens c e) = Below n e
CheckBelow n (IsNull e) = Below n e
CheckBelow n (Holds p es) = AllBelow n es

abbrev pub ChecksBelow : ℕ → List Check → Type 0
ChecksBelow n [] = Unit {0}
ChecksBelow n (c ∷ cs) = CheckBelow n c × ChecksBelow n cs

module _ (n : ℕ) where
  pub around_below : (cs : List Check) (fails e : Exp) → ChecksBelow n cs → Below n fails → Below n e → Below n (around_all cs fails e)
  around_below [] fails e a f h = h
  around_below (Load x ∷ cs) fails e a f h = (around_below cs fails e (a.1) f h, (a.0, tt))
  around_below (Opens c x ∷ cs) fails e a f h = ((around_below cs fails e (a.1) f h, f), (a.0, tt))
  around_below (IsNull x ∷ cs) fails e a f h = ((f, around_below cs fails e (a.1) f h), (a.0, tt))
  around_below (Holds p es ∷ cs) fails e a f h = ((around_below cs fails e (a.1) f h, f), a.0)

  checks_and : (cs ds : List Check) → ChecksBelow n cs → ChecksBelow n ds → ChecksBelow n (cs ++ ds)
  checks_and [] ds a b = b
  checks_and (c ∷ cs) ds a b = (a.0, checks_and cs ds (a.1) b)

  abbrev SourceBelow : Source → Type 0
  SourceBelow (Named level) = Unit {0}
  SourceBelow (Part e) = Below n e

  value_below : (v : Source) (m : ℕ) → SourceBelow v → Below n (value_of v m)
  value_below (Named level) m a = tt
  value_below (Part e) m a = a

  loads_below : (v : Source) → SourceBelow v → ChecksBelow n (loads v)
  loads_below (Named level) a = tt
  loads_below (Part e) a = (a, tt)

  literal_below : (c : Datum) (e : Exp) → Below n e → CheckBelow n (literal c e)
  literal_below part.Null e a = a
  literal_below _ e a = (a, tt)

  mutual
    pub check_below : (p : Pat) (v : Source) (m : ℕ) → SourceBelow v → ChecksBelow n (check p v m).checks
    check_below Wildcard v m a = tt
    check_below pattern.Bind v m a = loads_below v a
    check_below (Constant c) v m a = (literal_below c (value_of v m) (value_below v m a), tt)
    check_below (Present? p) v m a = (value_below v m a, check_below p (Named m) (suc m) tt)
    check_below (Tagged l p) v m a = (value_below v m a, check_below p (Named m) (suc m) tt)
    check_below (Parts ps) v m a = checks_and (loads v) (check_parts ps 0 (level_of v m) (names_with v m)).checks (loads_below v a) (parts_below ps 0 (level_of v m) (names_with v m))
    check_below (Fields ls ps) v m a = checks_and (loads v) (check_fields ls ps (level_of v m) (names_with v m)).checks (loads_below v a) (fields_below ls ps (level_of v m) (names_with v m))
    check_below (Either p q) v m a =
        let cs : List Check = (check p (Named (level_of v m)) (names_with v m)).checks in
        let ds : List Check = (check q (Named (level_of v m)) (names_with v m)).checks in
        let f : Below n (truth cs) = around_below cs (flag false) (flag true) (check_below p (Named (level_of v m)) (names_with v m) tt) tt tt in
        let g : Below n (truth ds) = around_below ds (flag false) (flag true) (check_below q (Named (level_of v m)) (names_with v m) tt) tt tt in
        checks_and (loads v) (either cs ds ∷ []) (loads_below v a) ((((tt, g), (f, tt)), tt), tt)

    parts_below : (ps : Pats) (i level m : ℕ) → ChecksBelow n (check_parts ps i level m).checks
    parts_below NoPat i level m = tt
    parts_below (APat p ps) i level m =
        checks_and (check p (part_of i level m) m).checks (check_parts ps (suc i) level (check p (part_of i level m) m).names).checks (check_below p (part_of i level m) m (tt, (tt, tt))) (parts_below ps (suc i) level (check p (part_of i level m) m).names)

    fields_below : (ls : List Bytes) (ps : Pats) (level m : ℕ) → ChecksBelow n (check_fields ls ps level m).checks
    fields_below ls NoPat level m = tt
    fields_below [] (APat p ps) level m = tt
    fields_below (l ∷ ls) (APat p ps) level m =
        checks_and (check p (field_of l level m) m).checks (check_fields ls ps level (check p (field_of l level m) m).names).checks (check_below p (field_of l level m) m (tt, (tt, tt))) (fields_below ls ps level (check p (field_of l level m) m).names)

  pub all_below : (ps : Pats) (level m : ℕ) → ChecksBelow n (check_all ps level m).checks
  all_below NoPat level m = tt
  all_below (APat p ps) level m = checks_and (check p (Named level) m).checks _ (check_below p (Named level) m tt) (all_below ps _ _)
