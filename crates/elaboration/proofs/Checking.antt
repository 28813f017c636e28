-- The checks of a pattern do what its match says.
use Rattle.std.proofs.Common.{◌≡◌, inl, inr, ℕ, suc, ◌+◌, ◌-◌, ◌*◌, ◌≤◌, Bool, true, false, List, [], ◌∷◌, ◌++◌, length, Option, Some, None, slice_get, refl, sym, ap, ◌∙◌, subst, arith}
use Rattle.std.specs.Prelude.{cond}
use Rattle.mo_types.specs.declared.datum.Datum.{Datum}
use Rattle.mo_types.specs.declared.datum.Datum.TheVariants as part
use Rattle.mo_values.specs.declared.operation.Operation.TheVariants as op
use Rattle.mo_values.specs.Costs.{weighing}
use Rattle.mo_values.specs.Parts.{same_part}
use Rattle.mo_values.specs.Shapes.{Bytes}
use Rattle.mo_values.specs.Views as answer
use Rattle.mo_values.specs.Views.{given, leaf_of, tuple_of}
use Rattle.core_ir.specs.declared.primitive.Constructor.{Constructor}
use Rattle.core_ir.specs.declared.primitive.Constructor.TheVariants as constructor
use Rattle.core_ir.specs.declared.primitive.Primitive.{Primitive}
use Rattle.core_ir.specs.declared.primitive.Primitive.TheVariants as primitive
use Rattle.core_ir.specs.Choices.{choose}
use Rattle.core_ir.specs.Values.{Handle, Value, flag_value}
use Rattle.core_ir.specs.Worlds.{World, Context}
use Rattle.core_ir.specs.Primitives as done
use Rattle.core_ir.specs.Primitives.{answered, comparable, literal_weight, tested}
use Rattle.core_ir.specs.Expressions as core
use Rattle.core_ir.specs.Expressions.{Exp, Do, Exps, Operate, Choose, Match, Core}
use Rattle.core_ir.specs.CoreMachine.{Frame, Join, Focus, Eval, Give, matched, chosen, operated}
use Rattle.typed_tree.specs.Patterns as pattern
use Rattle.typed_tree.specs.Patterns.{Pat, Pats, Found, Wildcard, Constant, Present?, Tagged, Parts, Fields, Either, NoPat, APat, matches, matches_all, matches_fields, all_of, first_of_both, where_true, where_there, is_literal, present_of, tagged_of, pattern_nodes, nodes_of_all}
use Rattle.typed_tree.specs.PatternWeights as weights
use Rattle.typed_tree.specs.PatternWeights.{pattern_weight, weight_of_all, weight_of_fields}
use Rattle.elaboration.specs.Scopes.{one, name}
use Rattle.elaboration.specs.Checks as checks
use Rattle.elaboration.specs.Checks.{Check, Load, Opens, IsNull, Holds, Checked, Source, Named, Part, value_of, loads, level_of, names_with, part_of, field_of, truth, either, after, and, check, check_all, check_parts, check_fields, around_all}
use Rattle.elaboration.specs.Meeting.{OpensTo, MeetsLiteral, Meets, MeetEach, MeetFields, Reads, Extends, Comes, There, Gives, Stands, Decides, allowed, ChecksDecide}
use Rattle.elaboration.proofs.Coming.{assoc, split, joins_both, reads_new, reads_more, each_more, each_and, cost_of, weaker, seq, step, name_gives, source_gives, on_one, pop, ReadDown, down_more}

pub weight_pos : (p : Pat) (w : Value) → 1 ≤ pattern_weight p w
weight_pos Wildcard w = omega arith
weight_pos pattern.Bind w = omega arith
weight_pos (Constant c) w = omega arith
weight_pos (Present? p) w = omega arith
weight_pos (Tagged l p) w = omega arith
weight_pos (Parts ps) w = omega arith
weight_pos (Fields ls ps) w = omega arith
weight_pos (Either p q) w = omega arith

-- where it is loaded first
load_fits : (v : Source) (p : Pat) (w : Value) (x m : ℕ) → pattern_weight p w ≡ 1 + x → m ≤ 2 * x → 2 * cost_of v + m ≤ allowed v p w
load_fits (Named level) p w x m e h = omega (arith, e, h)
load_fits (Part q) p w x m e h = omega (arith, e, h)

open_fits : (v : Source) (p : Pat) (w : Value) (x : ℕ) → pattern_weight p w ≡ 1 + x → cost_of v + 1 + (2 * x - 1) ≤ allowed v p w
open_fits (Named level) p w x e = omega (arith, e)
open_fits (Part q) p w x e = omega (arith, e)

fields_fit : (v : Source) (ls : List Bytes) (ps : Pats) (w : Value) (m : ℕ) → m ≤ 2 * weight_of_fields ls ps w → 2 * cost_of v + m ≤ allowed v (Fields ls ps) w
fields_fit (Named level) ls ps w m h = omega (arith, h)
fields_fit (Part q) ls ps w m h = omega (arith, h)

literal_fits : (v : Source) (p : Pat) (w : Value) (x : ℕ) → x ≤ pattern_weight p w → 1 ≤ pattern_weight p w → cost_of v + x ≤ allowed v p w
literal_fits (Named level) p w x e h = omega (arith, e, h)
literal_fits (Part q) p w x e h = omega (arith, e, h)

module _ (program : Core) (context : Context) (nodes : ℕ) (world : World) where
  abbrev C : ℕ → Focus → List Frame → Focus → List Frame → Type 0
  C = Comes program context nodes world

  abbrev D : Found Handle → ℕ → List Value → List Frame → Checked → Type 0
  D = Decides program context nodes world

  abbrev S : List Value → Source → Value → Type 0
  S = Stands program context nodes world

  abbrev G : ℕ → List Value → Exp → Value → Type 0
  G = Gives program context nodes world

  less : (o : Found Handle) (m n : ℕ) (env : List Value) (k : List Frame) (c : Checked) → m ≤ n → D o m env k c → D o n env k c
  less None m n env k c h a = (a.0, a.1, λ fails next. weaker program context nodes world m n (Eval (around_all c.checks fails next) env) k (Eval fails (a.0)) ((a.1) ++ k) h (a.2 fails next), a.3, a.4)
  less (Some vs) m n env k c h a =
      (a.0, a.1, λ fails next. weaker program context nodes world m n (Eval (around_all c.checks fails next) env) k (Eval next (a.0)) ((a.1) ++ k) h (a.2 fails next), a.3, a.4, a.5, a.6)

  -- ---- one after another

  abbrev Follows : (o o2 : Found Handle) (m n : ℕ) (env : List Value) (k : List Frame) (c d : Checked) → D o m env k c → Type 0
  Follows None o2 m n env k c d a = Unit {0}
  Follows (Some vs) o2 m n env k c d a = D o2 n (a.0) ((a.1) ++ k) d

  both : (o o2 : Found Handle) (m n : ℕ) (env : List Value) (k : List Frame) (c d : Checked) (a : D o m env k c) → Follows o o2 m n env k c d a → D (all_of o o2) (m + n) env k (and c d)
  both None o2 m n env k c d a b = (
    a.0,
    a.1,
    λ fails next. subst (λ x. C (m + n) (Eval x env) k (Eval fails (a.0)) ((a.1) ++ k)) (sym (split c.checks d.checks fails next))
        (weaker program context nodes world m (m + n) (Eval (around_all c.checks fails (around_all d.checks fails next)) env) k (Eval fails (a.0)) ((a.1) ++ k) (omega arith) (a.2 fails (around_all d.checks fails next))),
    a.3,
    a.4,
  )
  both (Some vs) None m n env k c d a b = (
    b.0,
    (b.1) ++ (a.1),
    λ fails next. subst (λ x. C (m + n) (Eval x env) k (Eval fails (b.0)) (((b.1) ++ (a.1)) ++ k)) (sym (split c.checks d.checks fails next))
        (subst (λ l. C (m + n) (Eval (around_all c.checks fails (around_all d.checks fails next)) env) k (Eval fails (b.0)) l) (sym (assoc (b.1) (a.1) k))
        (seq program context nodes world m n (Eval (around_all c.checks fails (around_all d.checks fails next)) env) k (Eval (around_all d.checks fails next) (a.0)) ((a.1) ++ k) (Eval fails (b.0)) ((b.1) ++ ((a.1) ++ k))
        (a.2 fails (around_all d.checks fails next)) (b.2 fails next))),
    λ level w r. b.3 level w (a.5 level w r),
    joins_both (b.1) (a.1) (b.4) (a.6),
  )
  both (Some vs) (Some us) m n env k c d a b = (
    b.0,
    (b.1) ++ (a.1),
    λ fails next. subst (λ x. C (m + n) (Eval x env) k (Eval next (b.0)) (((b.1) ++ (a.1)) ++ k)) (sym (split c.checks d.checks fails next))
        (subst (λ l. C (m + n) (Eval (around_all c.checks fails (around_all d.checks fails next)) env) k (Eval next (b.0)) l) (sym (assoc (b.1) (a.1) k))
        (seq program context nodes world m n (Eval (around_all c.checks fails (around_all d.checks fails next)) env) k (Eval (around_all d.checks fails next) (a.0)) ((a.1) ++ k) (Eval next (b.0)) ((b.1) ++ ((a.1) ++ k))
        (a.2 fails (around_all d.checks fails next)) (b.2 fails next))),
    b.3,
    each_and (b.0) c.bound d.bound vs us (each_more (a.0) (b.0) (b.5) c.bound vs (a.4)) (b.4),
    λ level w r. b.5 level w (a.5 level w r),
    joins_both (b.1) (a.1) (b.6) (a.6),
  )

  -- a check that holds, which binds nothing
  then_some : (o : Found Handle) (m n : ℕ) (env : List Value) (k : List Frame) (c d : Checked) (a : D (Some []) m env k c) → D o n (a.0) ((a.1) ++ k) d → D o (m + n) env k (and c d)
  then_some None m n env k c d a b = both (Some []) None m n env k c d a b
  then_some (Some us) m n env k c d a b = both (Some []) (Some us) m n env k c d a b

  -- ---- single checks

  abbrev single : Check → ℕ → Checked
  single c names = record { checks = c ∷ []; names = names; bound = [] }

  abbrev load_check : (e : Exp) (env : List Value) (w : Value) (k : List Frame) → G 1 env e w → D (Some []) 2 env k (single (Load e) (suc (length env)))
  load_check e env w k g =
      (w ∷ env, [], λ fails next. on_one program context nodes world 1 1 (core.Bind next) e env w k (Eval next (w ∷ env)) k refl g refl, refl, tt, reads_more env w, tt)

  loading : (v : Source) (o : Found Handle) (m n : ℕ) (env : List Value) (w : Value) (k : List Frame) (c : Checked) → S env v w → 2 * cost_of v + m ≤ n
      → ((env1 : List Value) → Reads env1 (level_of v (length env)) w → names_with v (length env) ≡ length env1 → D o m env1 k c) → D o n env k (after (loads v) c)
  loading (Named level) o m n env w k c s le h = less o m n env k c (omega (arith, le)) (h env s refl)
  loading (Part e) o m n env w k c s le h =
      less o (2 + m) n env k (and (single (Load e) (suc (length env))) c) (omega (arith, le))
      (then_some o 2 m env k (single (Load e) (suc (length env))) c (load_check e env w k s) (h (w ∷ env) (reads_new env w) refl))

  holds : (b : Bool) (p : Primitive) (es : Exps) (n : ℕ) (env : List Value) (k : List Frame) → ((next other : Exp) → C n (Eval (Do (Choose p next other) es) env) k (Eval (choose b next other) env) (Join ∷ k))
      → D (where_true b) n env k (single (Holds p es) (length env))
  holds true p es n env k run = (env, Join ∷ [], λ fails next. run next fails, refl, tt, λ level w r. r, tt)
  holds false p es n env k run = (env, Join ∷ [], λ fails next. run next fails, λ level w r. r, tt)

  -- ---- forms

  opening : (c : Constructor) (p : Pat) (v : Source) (env : List Value) (w : Value) (k : List Frame) (o : Option Value) (n : ℕ) → S env v w → OpensTo c w o (λ u. Meets p u)
      → cost_of v + 1 + (2 * weights.where_there (λ u. pattern_weight p u) (pattern_nodes p) o - 1) ≤ n
      → ((u : Value) → Meets p u → D (matches p u) (2 * pattern_weight p u - 1) (u ∷ env) (Join ∷ k) (check p (Named (length env)) (suc (length env))))
      → D (where_there (λ u. matches p u) o) n env k (after (Opens c (value_of v (length env)) ∷ []) (check p (Named (length env)) (suc (length env))))
  opening c p v env w k None n s h le rec = (
    env,
    Join ∷ [],
    λ fails next. weaker program context nodes world (cost_of v + 1) n _ k (Eval fails env) (Join ∷ k) (omega (arith, le))
        (on_one program context nodes world (cost_of v) 1 (Match c (around_all (check p (Named (length env)) (suc (length env))).checks fails next) fails) (value_of v (length env)) env w k (Eval fails env) (Join ∷ k) refl
        (source_gives program context nodes world v env w s)
        (ap (matched program context nodes world (around_all (check p (Named (length env)) (suc (length env))).checks fails next) fails env k) h)),
    λ level w r. r,
    tt,
  )
  opening c p v env w k (Some u) n s h le rec =
      less (matches p u) (cost_of v + 1 + (2 * pattern_weight p u - 1)) n env k (after (Opens c (value_of v (length env)) ∷ []) (check p (Named (length env)) (suc (length env)))) le
      (then_some (matches p u) (cost_of v + 1) (2 * pattern_weight p u - 1) env k (single (Opens c (value_of v (length env))) (suc (length env))) (check p (Named (length env)) (suc (length env))) (
        u ∷ env,
        Join ∷ [],
        λ fails next. on_one program context nodes world (cost_of v) 1 (Match c next fails) (value_of v (length env)) env w k (Eval next (u ∷ env)) (Join ∷ k) refl
            (source_gives program context nodes world v env w s) (ap (matched program context nodes world next fails env k) (h.0)),
        refl,
        tt,
        reads_more env u,
        tt,
      )
      (rec u (h.1)))

  -- ---- literals

  null_check : (v : Source) (env : List Value) (w : Value) (k : List Frame) (n : ℕ) → S env v w → MeetsLiteral part.Null w → cost_of v + 1 ≤ n
      → D (where_true (is_literal part.Null (leaf_of w))) n env k (single (IsNull (value_of v (length env))) (length env))
  null_check v env w k n s (inl h) le =
      subst (λ o. D (where_true (is_literal part.Null o)) n env k (single (IsNull (value_of v (length env))) (length env))) (sym (h.1)) (
        env,
        Join ∷ [],
        λ fails next. weaker program context nodes world (cost_of v + 1) n _ k (Eval next env) (Join ∷ k) le
            (on_one program context nodes world (cost_of v) 1 (Match constructor.Present fails next) (value_of v (length env)) env w k (Eval next env) (Join ∷ k) refl (source_gives program context nodes world v env w s)
            (ap (matched program context nodes world fails next env k) (h.0))),
        refl,
        tt,
        λ level w r. r,
        tt,
      )
  null_check v env w k n s (inr h) le =
      subst (λ o. D (where_true (is_literal part.Null o)) n env k (single (IsNull (value_of v (length env))) (length env))) (sym (h.2)) (
        (h.0) ∷ env,
        Join ∷ [],
        λ fails next. weaker program context nodes world (cost_of v + 1) n _ k (Eval fails ((h.0) ∷ env)) (Join ∷ k) le
            (on_one program context nodes world (cost_of v) 1 (Match constructor.Present fails next) (value_of v (length env)) env w k (Eval fails ((h.0) ∷ env)) (Join ∷ k) refl (source_gives program context nodes world v env w s)
            (ap (matched program context nodes world fails next env k) (h.1))),
        reads_more env (h.0),
        tt,
      )

  same_check : (c d : Datum) (v : Source) (env : List Value) (w : Value) (k : List Frame) (n : ℕ) → S env v w → leaf_of w ≡ Some d → comparable c d ≡ true → cost_of v + literal_weight c w ≤ n
      → D (where_true (is_literal c (leaf_of w))) n env k (single (checks.same c (value_of v (length env))) (length env))
  same_check c d v env w k n s e h le =
      subst (λ o. D (where_true (is_literal c o)) n env k (single (checks.same c (value_of v (length env))) (length env))) (sym e)
      (holds (same_part c d) (primitive.Is c) (one (value_of v (length env))) n env k (λ next other.
      weaker program context nodes world (cost_of v + literal_weight c w) n (Eval (Do (Choose (primitive.Is c) next other) (one (value_of v (length env)))) env) k (Eval (choose (same_part c d) next other) env) (Join ∷ k) le
      (on_one program context nodes world (cost_of v) (literal_weight c w) (Choose (primitive.Is c) next other) (value_of v (length env)) env w k (Eval (choose (same_part c d) next other) env) (Join ∷ k) refl
      (source_gives program context nodes world v env w s)
      (ap (λ o. chosen program context nodes world next other env k (tested context.head world.store c w o)) e
      ∙ ap (λ b. chosen program context nodes world next other env k (cond b (done.Gives (weighing (literal_weight c w)) (flag_value (same_part c d)) world.store) done.Stuck)) h))))

  literal_check : (c : Datum) (v : Source) (env : List Value) (w : Value) (k : List Frame) → S env v w → MeetsLiteral c w → D (matches (Constant c) w) (allowed v (Constant c) w) env k (check (Constant c) v (length env))
  literal_check part.Null v env w k s h = null_check v env w k (allowed v (Constant part.Null) w) s h (literal_fits v (Constant part.Null) w 1 (omega arith) (omega arith))
  literal_check (part.Flag b) v env w k s h = same_check (part.Flag b) (h.0) v env w k (allowed v (Constant (part.Flag b)) w) s (h.1) (h.2) (literal_fits v (Constant (part.Flag b)) w 1 (omega arith) (omega arith))
  literal_check (part.Number z) v env w k s h = same_check (part.Number z) (h.0) v env w k (allowed v (Constant (part.Number z)) w) s (h.1) (h.2) (literal_fits v (Constant (part.Number z)) w 1 (omega arith) (omega arith))
  literal_check (part.Char z) v env w k s h = same_check (part.Char z) (h.0) v env w k (allowed v (Constant (part.Char z)) w) s (h.1) (h.2) (literal_fits v (Constant (part.Char z)) w 1 (omega arith) (omega arith))
  literal_check (part.Text t) v env w k s h = same_check (part.Text t) (h.0) v env w k (allowed v (Constant (part.Text t)) w) s (h.1) (h.2) (literal_fits v (Constant (part.Text t)) w (literal_weight (part.Text t) w) (omega arith) (omega arith))
  literal_check (part.Blob t) v env w k s h = same_check (part.Blob t) (h.0) v env w k (allowed v (Constant (part.Blob t)) w) s (h.1) (h.2) (literal_fits v (Constant (part.Blob t)) w (literal_weight (part.Blob t) w) (omega arith) (omega arith))
  literal_check (part.Principal t) v env w k s h = same_check (part.Principal t) (h.0) v env w k (allowed v (Constant (part.Principal t)) w) s (h.1) (h.2) (literal_fits v (Constant (part.Principal t)) w 1 (omega arith) (omega arith))
  literal_check (part.Actor t) v env w k s h = same_check (part.Actor t) (h.0) v env w k (allowed v (Constant (part.Actor t)) w) s (h.1) (h.2) (literal_fits v (Constant (part.Actor t)) w 1 (omega arith) (omega arith))
  literal_check (part.Method t m) v env w k s h = same_check (part.Method t m) (h.0) v env w k (allowed v (Constant (part.Method t m)) w) s (h.1) (h.2) (literal_fits v (Constant (part.Method t m)) w 1 (omega arith) (omega arith))
  literal_check part.Present v env w k s h = same_check part.Present (h.0) v env w k (allowed v (Constant part.Present) w) s (h.1) (h.2) (literal_fits v (Constant part.Present) w 1 (omega arith) (omega arith))
  literal_check (part.Many t) v env w k s h = same_check (part.Many t) (h.0) v env w k (allowed v (Constant (part.Many t)) w) s (h.1) (h.2) (literal_fits v (Constant (part.Many t)) w 1 (omega arith) (omega arith))
  literal_check (part.Record t) v env w k s h = same_check (part.Record t) (h.0) v env w k (allowed v (Constant (part.Record t)) w) s (h.1) (h.2) (literal_fits v (Constant (part.Record t)) w 1 (omega arith) (omega arith))
  literal_check (part.Tag t) v env w k s h = same_check (part.Tag t) (h.0) v env w k (allowed v (Constant (part.Tag t)) w) s (h.1) (h.2) (literal_fits v (Constant (part.Tag t)) w 1 (omega arith) (omega arith))

  -- ---- alternatives

  abbrev found : Found Handle → Bool
  found None = false
  found (Some vs) = true

  truth_gives : (o : Found Handle) (n : ℕ) (env : List Value) (c : Checked) → ((k : List Frame) → D o n env k c) → G n env (truth c.checks) (flag_value (found o))
  truth_gives None n env c h k =
      let a : D None n env k c = h k in
      weaker program context nodes world (n + (0 + 0)) n _ k (Give (flag_value false)) k (omega arith)
      (seq program context nodes world n (0 + 0) (Eval (truth c.checks) env) k (Eval (checks.flag false) (a.0)) ((a.1) ++ k) (Give (flag_value false)) k (a.2 (checks.flag false) (checks.flag true))
      (step program context nodes world 0 0 (Eval (checks.flag false) (a.0)) ((a.1) ++ k) (Give (flag_value false)) ((a.1) ++ k) refl (Give (flag_value false)) k refl (pop program context nodes world (a.1) (flag_value false) k (a.4))))
  truth_gives (Some vs) n env c h k =
      let a : D (Some vs) n env k c = h k in
      weaker program context nodes world (n + (0 + 0)) n _ k (Give (flag_value true)) k (omega arith)
      (seq program context nodes world n (0 + 0) (Eval (truth c.checks) env) k (Eval (checks.flag true) (a.0)) ((a.1) ++ k) (Give (flag_value true)) k (a.2 (checks.flag false) (checks.flag true))
      (step program context nodes world 0 0 (Eval (checks.flag true) (a.0)) ((a.1) ++ k) (Give (flag_value true)) ((a.1) ++ k) refl (Give (flag_value true)) k refl (pop program context nodes world (a.1) (flag_value true) k (a.6))))

  -- the truth of the first, or else of the second
  or_gives : (a b : Bool) (x y : Exp) (m n : ℕ) (env : List Value) → G m env x (flag_value a) → G n env y (flag_value b)
      → G (m + 1 + n) env (Do (Choose primitive.Copy (checks.flag true) y) (one x)) (flag_value (choose a true b))
  or_gives true b x y m n env g h k =
      weaker program context nodes world (m + 1 + (0 + 0)) (m + 1 + n) _ k (Give (flag_value true)) k (omega arith)
      (seq program context nodes world (m + 1) (0 + 0) (Eval (Do (Choose primitive.Copy (checks.flag true) y) (one x)) env) k (Eval (checks.flag true) env) (Join ∷ k) (Give (flag_value true)) k
      (on_one program context nodes world m 1 (Choose primitive.Copy (checks.flag true) y) x env (flag_value true) k (Eval (checks.flag true) env) (Join ∷ k) refl g refl)
      (step program context nodes world 0 0 (Eval (checks.flag true) env) (Join ∷ k) (Give (flag_value true)) (Join ∷ k) refl (Give (flag_value true)) k refl (pop program context nodes world (Join ∷ []) (flag_value true) k tt)))
  or_gives false b x y m n env g h k =
      weaker program context nodes world (m + 1 + (n + 0)) (m + 1 + n) _ k (Give (flag_value b)) k (omega arith)
      (seq program context nodes world (m + 1) (n + 0) (Eval (Do (Choose primitive.Copy (checks.flag true) y) (one x)) env) k (Eval y env) (Join ∷ k) (Give (flag_value b)) k
      (on_one program context nodes world m 1 (Choose primitive.Copy (checks.flag true) y) x env (flag_value false) k (Eval y env) (Join ∷ k) refl g refl)
      (seq program context nodes world n 0 (Eval y env) (Join ∷ k) (Give (flag_value b)) (Join ∷ k) (Give (flag_value b)) k (h (Join ∷ k)) (pop program context nodes world (Join ∷ []) (flag_value b) k tt)))

  either_names_nothing : (o1 o2 : Found Handle) (n : ℕ) (env : List Value) (k : List Frame) (c : Checked) → D (where_true (choose (found o1) true (found o2))) n env k c → D (first_of_both o1 o2) n env k c
  either_names_nothing None None n env k c a = a
  either_names_nothing None (Some us) n env k c a = a
  either_names_nothing (Some vs) None n env k c a = a
  either_names_nothing (Some vs) (Some us) n env k c a = a

  either_check : (o1 o2 : Found Handle) (m n l : ℕ) (env : List Value) (k : List Frame) (c d : Checked) → ((k : List Frame) → D o1 m env k c) → ((k : List Frame) → D o2 n env k d) → m + 1 + n + 1 ≤ l
      → D (first_of_both o1 o2) l env k (single (either c.checks d.checks) (length env))
  either_check o1 o2 m n l env k c d a b le =
      either_names_nothing o1 o2 l env k (single (either c.checks d.checks) (length env))
      (holds (choose (found o1) true (found o2)) primitive.Copy (one (Do (Choose primitive.Copy (checks.flag true) (truth d.checks)) (one (truth c.checks)))) l env k
      (λ next other. weaker program context nodes world (m + 1 + n + 1) l _ k (Eval (choose (choose (found o1) true (found o2)) next other) env) (Join ∷ k) le
      (on_one program context nodes world (m + 1 + n) 1 (Choose primitive.Copy next other) (Do (Choose primitive.Copy (checks.flag true) (truth d.checks)) (one (truth c.checks))) env (flag_value (choose (found o1) true (found o2))) k
      (Eval (choose (choose (found o1) true (found o2)) next other) env) (Join ∷ k) refl
      (or_gives (found o1) (found o2) (truth c.checks) (truth d.checks) m n env (truth_gives o1 m env c a) (truth_gives o2 n env d b)) refl)))

  -- ---- parts

  projects : (i : ℕ) (env : List Value) (level : ℕ) (w u : Value) (all : List Value) → Reads env level w → tuple_of w ≡ Some all → slice_get all i ≡ Some u → G 1 env (value_of (part_of i level (length env)) (length env)) u
  projects i env level w u all r e f k =
      on_one program context nodes world 0 1 (Operate (primitive.Operate (op.Project i))) (name (length env) level) env w k (Give u) k refl (name_gives program context nodes world env level w r)
      (ap (λ o. operated program context nodes world k (answered context.head world.store (weighing 1) (given o (λ vs. given (slice_get vs i) (λ u. answer.Gives u))))) e
      ∙ ap (λ o. operated program context nodes world k (answered context.head world.store (weighing 1) (given o (λ u. answer.Gives u)))) f)

  takes_field : (l : Bytes) (env : List Value) (level : ℕ) (w u : Value) → Reads env level w → answer.field_of l w ≡ Some u → G 1 env (value_of (field_of l level (length env)) (length env)) u
  takes_field l env level w u r e k =
      on_one program context nodes world 0 1 (Operate (primitive.Operate (op.Field l))) (name (length env) level) env w k (Give u) k refl (name_gives program context nodes world env level w r)
      (ap (λ o. operated program context nodes world k (answered context.head world.store (weighing 1) (given o (λ u. answer.Gives u)))) e)

  follow : (o o2 : Found Handle) (m n : ℕ) (env : List Value) (k : List Frame) (c d : Checked) (a : D o m env k c)
      → ((env1 : List Value) (k1 : List Frame) → Extends env env1 → c.names ≡ length env1 → D o2 n env1 k1 d) → Follows o o2 m n env k c d a
  follow None o2 m n env k c d a h = tt
  follow (Some vs) o2 m n env k c d a h = h (a.0) ((a.1) ++ k) (a.5) (a.3)

  mutual
    pub decide : ChecksDecide program context nodes world
    decide Wildcard v env w k s h = (env, [], λ fails next. There (allowed v Wildcard w) (Eval next env) k, refl, tt, λ level w r. r, tt)
    decide pattern.Bind (Named level) env w k s h = (env, [], λ fails next. There (allowed (Named level) pattern.Bind w) (Eval next env) k, refl, (s, tt), λ level w r. r, tt)
    decide pattern.Bind (Part e) env w k s h =
        (w ∷ env, [], λ fails next. on_one program context nodes world 1 1 (core.Bind next) e env w k (Eval next (w ∷ env)) k refl s refl, refl, (reads_new env w, tt), reads_more env w, tt)
    decide (Constant c) v env w k s h = literal_check c v env w k s h
    decide (Present? p) v env w k s h =
        opening constructor.Present p v env w k (present_of w) (allowed v (Present? p) w) s h (open_fits v (Present? p) w (weights.where_there (λ u. pattern_weight p u) (pattern_nodes p) (present_of w)) refl)
        (λ u m. decide p (Named (length env)) (u ∷ env) u (Join ∷ k) (reads_new env u) m)
    decide (Tagged l p) v env w k s h =
        opening (constructor.Tagged l) p v env w k (tagged_of l w) (allowed v (Tagged l p) w) s h (open_fits v (Tagged l p) w (weights.where_there (λ u. pattern_weight p u) (pattern_nodes p) (tagged_of l w)) refl)
        (λ u m. decide p (Named (length env)) (u ∷ env) u (Join ∷ k) (reads_new env u) m)
    decide (Parts ps) v env w k s h =
        let x : ℕ = weight_of_all ps (h.0) in
        subst (λ o. D (where_there (λ vs. matches_all ps vs) o) (allowed v (Parts ps) w) env k (after (loads v) (check_parts ps 0 (level_of v (length env)) (names_with v (length env))))) (sym (h.1))
        (loading v (matches_all ps (h.0)) (2 * x) (allowed v (Parts ps) w) env w k (check_parts ps 0 (level_of v (length env)) (names_with v (length env))) s
        (load_fits v (Parts ps) w x (2 * x) (ap (λ o. 1 + weights.where_there (λ vs. weight_of_all ps vs) (nodes_of_all ps) o) (h.1)) (omega arith))
        (λ env1 r e. decide_parts ps (h.0) (h.0) 0 (level_of v (length env)) (names_with v (length env)) env1 w k e r (h.1)
        (λ j u g. let z : 0 + j ≡ j = omega arith in subst (λ i. slice_get (h.0) i ≡ Some u) (sym z) g) (h.2)))
    decide (Fields ls ps) v env w k s h =
        let x : ℕ = weight_of_fields ls ps w in
        loading v (matches_fields ls ps w) (2 * x) (allowed v (Fields ls ps) w) env w k (check_fields ls ps (level_of v (length env)) (names_with v (length env))) s
        (fields_fit v ls ps w (2 * x) (omega arith))
        (λ env1 r e. decide_fields ls ps (level_of v (length env)) (names_with v (length env)) env1 w k e r h)
    decide (Either p q) v env w k s h =
        let x : ℕ = pattern_weight p w + pattern_weight q w in
        let l : ℕ = level_of v (length env) in
        let n : ℕ = names_with v (length env) in
        loading v (first_of_both (matches p w) (matches q w)) (2 * x) (allowed v (Either p q) w) env w k (single (either (check p (Named l) n).checks (check q (Named l) n).checks) n) s
        (load_fits v (Either p q) w x (2 * x) (omega arith) (omega arith))
        (λ env1 r e. subst (λ n. D (first_of_both (matches p w) (matches q w)) (2 * x) env1 k (single (either (check p (Named l) n).checks (check q (Named l) n).checks) n)) (sym e)
        (either_check (matches p w) (matches q w) (2 * pattern_weight p w - 1) (2 * pattern_weight q w - 1) (2 * x) env1 k (check p (Named l) (length env1)) (check q (Named l) (length env1))
        (λ k. decide p (Named l) env1 w k r (h.0)) (λ k. decide q (Named l) env1 w k r (h.1)) (let a : 1 ≤ pattern_weight p w = weight_pos p w in let b : 1 ≤ pattern_weight q w = weight_pos q w in omega (arith, a, b))))

    decide_parts : (ps : Pats) (vs all : List Value) (i level m : ℕ) (env : List Value) (w : Value) (k : List Frame) → m ≡ length env → Reads env level w → tuple_of w ≡ Some all
        → ((j : ℕ) (u : Value) → slice_get vs j ≡ Some u → slice_get all (i + j) ≡ Some u) → MeetEach ps vs → D (matches_all ps vs) (2 * weight_of_all ps vs) env k (check_parts ps i level m)
    decide_parts NoPat [] all i level m env w k e r t g h = (env, [], λ fails next. There 0 (Eval next env) k, e, tt, λ level w r. r, tt)
    decide_parts NoPat (v ∷ vs) all i level m env w k e r t g h = absurd h
    decide_parts (APat p ps) [] all i level m env w k e r t g h = absurd h
    decide_parts (APat p ps) (v ∷ vs) all i level m env w k e r t g h =
        let c : Checked = check p (part_of i level m) m in
        let d : Checked = check_parts ps (suc i) level c.names in
        let z : i + 0 ≡ i = omega arith in
        let a : D (matches p v) (2 * pattern_weight p v) env k c =
        subst (λ m. D (matches p v) (2 * pattern_weight p v) env k (check p (part_of i level m) m)) (sym e)
        (decide p (part_of i level (length env)) env v k (projects i env level w v all r t (subst (λ i. slice_get all i ≡ Some v) z (g 0 v refl))) (h.0)) in
        less (all_of (matches p v) (matches_all ps vs)) (2 * pattern_weight p v + 2 * weight_of_all ps vs) (2 * (pattern_weight p v + weight_of_all ps vs)) env k (and c d) (omega arith)
        (both (matches p v) (matches_all ps vs) (2 * pattern_weight p v) (2 * weight_of_all ps vs) env k c d a
        (follow (matches p v) (matches_all ps vs) (2 * pattern_weight p v) (2 * weight_of_all ps vs) env k c d a
        (λ env1 k1 x names. decide_parts ps vs all (suc i) level c.names env1 w k1 names (x level w r) t
        (λ j u f. let y : i + suc j ≡ suc i + j = omega arith in subst (λ i. slice_get all i ≡ Some u) y (g (suc j) u f)) (h.1))))

    decide_fields : (ls : List Bytes) (ps : Pats) (level m : ℕ) (env : List Value) (w : Value) (k : List Frame) → m ≡ length env → Reads env level w → MeetFields ls ps w
        → D (matches_fields ls ps w) (2 * weight_of_fields ls ps w) env k (check_fields ls ps level m)
    decide_fields [] NoPat level m env w k e r h = (env, [], λ fails next. There 0 (Eval next env) k, e, tt, λ level w r. r, tt)
    decide_fields [] (APat p ps) level m env w k e r h = absurd h
    decide_fields (l ∷ ls) NoPat level m env w k e r h = absurd h
    decide_fields (l ∷ ls) (APat p ps) level m env w k e r h =
        let c : Checked = check p (field_of l level m) m in
        let d : Checked = check_fields ls ps level c.names in
        let u : Value = h.0.0 in
        let a : D (matches p u) (2 * pattern_weight p u) env k c =
        subst (λ m. D (matches p u) (2 * pattern_weight p u) env k (check p (field_of l level m) m)) (sym e)
        (decide p (field_of l level (length env)) env u k (takes_field l env level w u r (h.0.1)) (h.0.2)) in
        subst (λ o. D (all_of (where_there (λ u. matches p u) o) (matches_fields ls ps w)) (2 * (weights.where_there (λ u. pattern_weight p u) (pattern_nodes p) o + weight_of_fields ls ps w)) env k (and c d)) (sym (h.0.1))
        (less (all_of (matches p u) (matches_fields ls ps w)) (2 * pattern_weight p u + 2 * weight_of_fields ls ps w) (2 * (pattern_weight p u + weight_of_fields ls ps w)) env k (and c d) (omega arith)
        (both (matches p u) (matches_fields ls ps w) (2 * pattern_weight p u) (2 * weight_of_fields ls ps w) env k c d a
        (follow (matches p u) (matches_fields ls ps w) (2 * pattern_weight p u) (2 * weight_of_fields ls ps w) env k c d a
        (λ env1 k1 x names. decide_fields ls ps level c.names env1 w k1 names (x level w r) (h.1)))))

  -- ---- several names

  pub decide_all : (ps : Pats) (vs : List Value) (level m : ℕ) (env : List Value) (k : List Frame) → m ≡ length env → ReadDown env level vs → MeetEach ps vs → D (matches_all ps vs) (2 * weight_of_all ps vs) env k (check_all ps level m)
  decide_all NoPat [] level m env k e r h = (env, [], λ fails next. There 0 (Eval next env) k, e, tt, λ level w r. r, tt)
  decide_all NoPat (v ∷ vs) level m env k e r h = absurd h
  decide_all (APat p ps) [] level m env k e r h = absurd h
  decide_all (APat p ps) (v ∷ vs) level m env k e r h =
      let c : Checked = check p (Named level) m in
      let d : Checked = check_all ps (level - 1) c.names in
      let a : D (matches p v) (2 * pattern_weight p v) env k c =
      subst (λ m. D (matches p v) (2 * pattern_weight p v) env k (check p (Named level) m)) (sym e)
      (less (matches p v) (2 * pattern_weight p v - 1) (2 * pattern_weight p v) env k (check p (Named level) (length env)) (omega arith) (decide p (Named level) env v k (r.0) (h.0))) in
      less (all_of (matches p v) (matches_all ps vs)) (2 * pattern_weight p v + 2 * weight_of_all ps vs) (2 * (pattern_weight p v + weight_of_all ps vs)) env k (and c d) (omega arith)
      (both (matches p v) (matches_all ps vs) (2 * pattern_weight p v) (2 * weight_of_all ps vs) env k c d a
      (follow (matches p v) (matches_all ps vs) (2 * pattern_weight p v) (2 * weight_of_all ps vs) env k c d a
      (λ env1 k1 x names. decide_all ps vs (level - 1) c.names env1 k1 names (down_more env env1 x (level - 1) vs (r.1)) (h.1))))
