-- Parts of a typed program one after another: what is made so far stands before what the rest makes, and both are the whole.
use Rattle.std.proofs.Common.{◌≡◌, ◌∙◌, ℕ, suc, ◌+◌, ◌<◌, ◌≤◌, List, [], ◌∷◌, ◌++◌, drop, get_or, length, map, refl, sym, ap, ap₂, subst, append-nil, append_assoc, length-append, arith}
use Rattle.std.specs.Prelude.{Result, Ok, Err, IfOk, OnOk}
use Rattle.std.proofs.lemmas.List.{length-map, at_drop_all, at_drop_more}
use Rattle.core_ir.specs.declared.expression.CoreBody.{CoreBody}
use Rattle.core_ir.specs.declared.expression.Expression.{Expression}
use Rattle.core_ir.specs.Expressions as core
use Rattle.core_ir.specs.Expressions.{AnExp, Body}
use Rattle.core_ir.specs.Programs.{Group}
use Rattle.core_ir.specs.View.{BindingView, binding, binding_step, core_body, exps, expression, expression_step, goal_step}
use Rattle.core_ir.specs.declared.expression.Binding.{fold-roll-Binding}
use Rattle.core_ir.specs.declared.expression.Binding.TheOpen as E
use Rattle.core_ir.specs.declared.expression.Binding.TheVariants as B
use Rattle.core_layers.specs.declared.layer.Layer.TheVariants as outer
use Rattle.core_layers.proofs.Adding.{layers_behind}
use Rattle.typed_tree.specs.declared.expression.TypedExpression.{TypedExpression}
use Rattle.typed_tree.specs.View as view
use Rattle.typed_tree.specs.Language.{Exp}
use Rattle.typed_tree.specs.Substitution.{count}
use Rattle.elaboration.specs.Checks.{fails}
use Rattle.elaboration.specs.Elaboration.{BodiesElaborated, ManyElaborated, changed, elaborate, elaborate_functions, elaborate_operands, joined, none_elaborated, with_first}
use Rattle.elaboration.specs.Members.{Elaborated, let_in}
use Rattle.elaboration.specs.Scopes.{Scope, append, under}
use Rattle.core_layers.specs.declared.layer.Layer.{Layer}
use Rattle.core_layers.specs.Layers.{layered}
use Rattle.core_members.specs.Seen.{seen_group, seen_groups}
use Rattle.core_members.proofs.Listing.{append_more, append_none}
use Rattle.core_parts.specs.Making.{Added, AreMade, BodiesMade, BodyElaborated, BodyMade, Declares, Groups, IsMade, Begun, Matched, Grouped, Turn, around_turn, begun}

-- ---- groups

-- the number of the next group
pub next_number : (gs : List (Group Body)) (old new : Groups) → Added gs old new → length new ≡ length old + length gs
next_number gs old new added =
    sym (length-map new seen_group) ∙ (ap length added ∙ (length-append (seen_groups old) gs ∙ ap (λ k. k + length gs) (length-map old seen_group)))

-- and what the rest adds
pub and_others : (gs hs : List (Group Body)) (old new : Groups) → Added gs old new → seen_groups new ++ hs ≡ seen_groups old ++ (gs ++ hs)
and_others gs hs old new added = ap (λ x. x ++ hs) added ∙ append_assoc (seen_groups old) gs hs

-- ---- operands

pub record Operands (whole rest : ManyElaborated) (old now : Groups) (made : List Expression) : Type 0 where
  pub operands : append (exps (map expression made)) rest.exps ≡ whole.exps
  pub groups : seen_groups now ++ rest.groups ≡ seen_groups old ++ whole.groups

pub no_operands : (whole : ManyElaborated) (old : Groups) → Operands whole whole old old []
no_operands whole old = record { operands = refl; groups = refl }

-- where the rest goes on from the number of the next group
pub next_operand : (rest : ℕ → ManyElaborated) (d : Elaborated) (whole : ManyElaborated) (old now new : Groups) (made : List Expression) (e : Expression)
    → Operands whole (with_first d (rest (length now + length d.groups))) old now made → IsMade d now new e → Operands whole (rest (length new)) old new (made ++ e ∷ [])
next_operand rest d whole old now new made e so one =
    let at : rest (length new) ≡ rest (length now + length d.groups) = ap rest (next_number d.groups now new one.1) in
    let Of : ManyElaborated → Type 0 = λ r. Operands whole r old new (made ++ e ∷ []) in
    let r : ManyElaborated = rest (length now + length d.groups) in
    subst Of (sym at) (record {
      operands = append_more made e r.exps ∙ (ap (λ x. append (exps (map expression made)) (AnExp x r.exps)) one.0 ∙ so.operands);
      groups = and_others d.groups r.groups now new one.1 ∙ so.groups;
    })

pub all_operands : (whole : ManyElaborated) (old now : Groups) (made : List Expression) → Operands whole none_elaborated old now made → AreMade whole old now made
all_operands whole old now made so = (sym (append_none (exps (map expression made))) ∙ so.operands, sym (append-nil (seen_groups now)) ∙ so.groups)

-- ---- bodies

pub record Bodies (whole rest : BodiesElaborated) (old now : Groups) (made : List CoreBody) : Type 0 where
  pub bodies : map core_body made ++ rest.bodies ≡ whole.bodies
  pub groups : seen_groups now ++ rest.groups ≡ seen_groups old ++ whole.groups

bodies_more : (bs : List CoreBody) (b : CoreBody) (rest : List Body) → map core_body (bs ++ b ∷ []) ++ rest ≡ map core_body bs ++ (core_body b ∷ rest)
bodies_more [] b rest = refl
bodies_more (c ∷ bs) b rest = ap (λ l. core_body c ∷ l) (bodies_more bs b rest)

pub next_body : (rest : ℕ → BodiesElaborated) (d : BodyElaborated) (whole : BodiesElaborated) (old now new : Groups) (made : List CoreBody) (b : CoreBody)
    → Bodies whole (record { bodies = d.body ∷ (rest (length now + length d.groups)).bodies; groups = d.groups ++ (rest (length now + length d.groups)).groups }) old now made
    → BodyMade d now new b → Bodies whole (rest (length new)) old new (made ++ b ∷ [])
next_body rest d whole old now new made b so one =
    let at : rest (length new) ≡ rest (length now + length d.groups) = ap rest (next_number d.groups now new one.1) in
    let Of : BodiesElaborated → Type 0 = λ r. Bodies whole r old new (made ++ b ∷ []) in
    let r : BodiesElaborated = rest (length now + length d.groups) in
    subst Of (sym at) (record {
      bodies = bodies_more made b r.bodies ∙ (ap (λ x. map core_body made ++ (x ∷ r.bodies)) one.0 ∙ so.bodies);
      groups = and_others d.groups r.groups now new one.1 ∙ so.groups;
    })

pub all_bodies : (whole : BodiesElaborated) (old now : Groups) (made : List CoreBody) → Bodies whole (record { bodies = []; groups = [] }) old now made → BodiesMade whole old now made
all_bodies whole old now made so = (sym (append-nil (map core_body made)) ∙ so.bodies, sym (append-nil (seen_groups now)) ∙ so.groups)

-- ---- layers

pub record Around (whole rest : Elaborated) (old now : Groups) (layers : List Layer) : Type 0 where
  pub exp : layered layers fails rest.exp ≡ whole.exp
  pub groups : seen_groups now ++ rest.groups ≡ seen_groups old ++ whole.groups

-- a value that is the nearest name in the rest
pub next_value : (rest : ℕ → Elaborated) (d whole : Elaborated) (old now new : Groups) (outer layers : List Layer) (v : Expression)
    → Around whole (joined let_in d (rest (length now + length d.groups))) old now outer → IsMade d now new v
    → ((f e : core.Exp) → layered layers f e ≡ layered outer f (let_in (expression v) e)) → Around whole (rest (length new)) old new layers
next_value rest d whole old now new outer layers v so one more =
    let at : rest (length new) ≡ rest (length now + length d.groups) = ap rest (next_number d.groups now new one.1) in
    let Of : Elaborated → Type 0 = λ r. Around whole r old new layers in
    let r : Elaborated = rest (length now + length d.groups) in
    subst Of (sym at) (record {
      exp = more fails r.exp ∙ (ap (λ x. layered outer fails (let_in x r.exp)) one.0 ∙ so.exp);
      groups = and_others d.groups r.groups now new one.1 ∙ so.groups;
    })

-- a declaration around what follows it
abbrev pub behind_turn : Turn → Scope → ℕ → Exp → Elaborated
behind_turn t s n b =
    let r : Elaborated = elaborate (begun t s n).scope (n + length (begun t s n).groups) b in
    record { exp = (begun t s n).start r.exp; groups = (begun t s n).groups ++ r.groups }

pub turn_is : (t : Turn) (s : Scope) (n : ℕ) (b : Exp) → elaborate s n (around_turn t b) ≡ behind_turn t s n b
turn_is (Matched p e) s n b = refl
turn_is (Grouped fns) s n b =
    let u : Scope = under (count fns) s in
    let f : BodiesElaborated = elaborate_functions u n fns in
    let g : Group Body = record { sees = s.names; bodies = f.bodies } in
    let more : suc (n + length f.groups) ≡ n + length (f.groups ++ g ∷ []) = omega (arith, length-append f.groups (g ∷ [])) in
    let At : ℕ → Elaborated = λ m. record { exp = core.Functions (n + length f.groups) (elaborate u m b).exp; groups = f.groups ++ g ∷ (elaborate u m b).groups } in
    let r : Elaborated = elaborate u (n + length (f.groups ++ g ∷ [])) b in
    ap At more ∙ ap (λ gs. record { exp = core.Functions (n + length f.groups) r.exp; groups = gs }) (sym (append_assoc f.groups (g ∷ []) r.groups))

pub next_declaration : (declaration : Exp → Exp) (s t : Scope) (whole : Elaborated) (old now new : Groups) (outer layers : List Layer) (b : Exp)
    → Around whole (elaborate s (length now) (declaration b)) old now outer → Declares declaration s t now new outer layers → Around whole (elaborate t (length new) b) old new layers
next_declaration declaration s t whole old now new outer layers b so one =
    let n : ℕ = length now in
    let x : Begun = begun one.turn s n in
    let r : Elaborated = elaborate x.scope (n + length x.groups) b in
    let there : elaborate s n (declaration b) ≡ record { exp = x.start r.exp; groups = x.groups ++ r.groups } = ap (elaborate s n) (one.is b) ∙ turn_is one.turn s n b in
    let Of : Elaborated → Type 0 = λ z. Around whole z old now outer in
    let then : Around whole (record { exp = x.start r.exp; groups = x.groups ++ r.groups }) old now outer = subst Of there so in
    let at : elaborate t (length new) b ≡ r = ap₂ (λ u m. elaborate u m b) one.scope (next_number x.groups now new one.groups) in
    let To : Elaborated → Type 0 = λ z. Around whole z old new layers in
    subst To (sym at) (record { exp = one.around r.exp ∙ then.exp; groups = and_others x.groups r.groups now new one.groups ∙ then.groups })

-- ---- functions of a group

functions_are : (k : ℕ) (rest : core.Exp) → binding (B.Functions k) rest ≡ core.Functions k rest
unfolding expression binding
functions_are k rest = ap (λ b. binding b rest) (sym (B.rolls-Functions k)) ∙ ap (λ (f : BindingView). f rest) (fold-roll-Binding BindingView core.Exp core.Goal binding_step expression_step goal_step (E.Functions k))

pub functions_behind : (ls : List Layer) (k : ℕ) (f e : core.Exp) → layered (ls ++ outer.Binding (B.Functions k) ∷ []) f e ≡ layered ls f (core.Functions k e)
functions_behind ls k f e = layers_behind ls (outer.Binding (B.Functions k) ∷ []) f e ∙ ap (λ y. layered ls f y) (functions_are k e)

-- ---- the rest of a list

pub more_operands : (xs : List TypedExpression) (i : ℕ) (x : TypedExpression) (s t : Scope) (whole : ManyElaborated) (old now new : Groups) (made more : List Expression) (e : Expression)
    → i < length xs → x ≡ get_or xs i x → t ≡ s → more ≡ made ++ e ∷ [] → Operands whole (elaborate_operands s (length now) (view.exps (map view.expression (drop i xs)))) old now made
    → IsMade (elaborate s (length now) (view.expression x)) now new e → Operands whole (elaborate_operands t (length new) (view.exps (map view.expression (drop (i + 1) xs)))) old new more
more_operands xs i x s t whole old now new made more e below is same longer so one =
    let F : List TypedExpression → ManyElaborated = λ ys. elaborate_operands s (length now) (view.exps (map view.expression ys)) in
    let Of : ManyElaborated → Type 0 = λ r. Operands whole r old now made in
    let At : TypedExpression → Type 0 = λ y. Operands whole (F (y ∷ drop (i + 1) xs)) old now made in
    let To : Scope → Type 0 = λ u. Operands whole (elaborate_operands u (length new) (view.exps (map view.expression (drop (i + 1) xs)))) old new (made ++ e ∷ []) in
    let With : List Expression → Type 0 = λ es. Operands whole (elaborate_operands t (length new) (view.exps (map view.expression (drop (i + 1) xs)))) old new es in
    subst With (sym longer) (subst To (sym same)
    (next_operand (λ n. elaborate_operands s n (view.exps (map view.expression (drop (i + 1) xs)))) (elaborate s (length now) (view.expression x)) whole old now new made e
    (subst At (sym is) (subst Of (at_drop_more F xs i x below) so)) one))

pub no_more_operands : (xs : List TypedExpression) (i : ℕ) (s : Scope) (whole : ManyElaborated) (old now : Groups) (made : List Expression)
    → length xs ≤ i → Operands whole (elaborate_operands s (length now) (view.exps (map view.expression (drop i xs)))) old now made → AreMade whole old now made
no_more_operands xs i s whole old now made past so =
    let F : List TypedExpression → ManyElaborated = λ ys. elaborate_operands s (length now) (view.exps (map view.expression ys)) in
    let Of : ManyElaborated → Type 0 = λ r. Operands whole r old now made in
    all_operands whole old now made (subst Of (at_drop_all F xs i past) so)

-- ---- parts of one expression

pub on_ok : {A E : Type 0} {P Q : A → Type 0} (r : Result A E) → IfOk r P → ((a : A) → P a → Q a) → IfOk r Q
on_ok (Ok a) h f = f a h
on_ok (Err e) h f = h

pub in_any_case : {A E P : Type 0} (r : Result A E) → P → OnOk r P
in_any_case (Ok a) p = p
in_any_case (Err e) p = tt

pub one_made : (f : core.Exp → core.Exp) (d : Elaborated) (old new : Groups) (x made : Expression) → IsMade d old new x → expression made ≡ f (expression x) → IsMade (changed f d) old new made
one_made f d old new x made one is = (is ∙ ap f one.0, one.1)

pub two_made : (f : core.Exp → core.Exp → core.Exp) (d : Elaborated) (rest : ℕ → Elaborated) (old mid new : Groups) (x y made : Expression)
    → IsMade d old mid x → IsMade (rest (length mid)) mid new y → expression made ≡ f (expression x) (expression y) → IsMade (joined f d (rest (length old + length d.groups))) old new made
two_made f d rest old mid new x y made first second is =
    let r : Elaborated = rest (length old + length d.groups) in
    let Of : Elaborated → Type 0 = λ z. IsMade z mid new y in
    let then : IsMade r mid new y = subst Of (ap rest (next_number d.groups old mid first.1)) second in
    (is ∙ ap₂ f first.0 then.0, then.1 ∙ and_others d.groups r.groups old mid first.1)

-- in a scope that is another one as well
pub made_in : (s t : Scope) (n : ℕ) (e : Exp) (old new : Groups) (x : Expression) → s ≡ t → IsMade (elaborate s n e) old new x → IsMade (elaborate t n e) old new x
made_in s t n e old new x same one = let Of : Scope → Type 0 = λ u. IsMade (elaborate u n e) old new x in subst Of same one
