use Rattle.std.proofs.Common.{◌≡◌, suc, ◌∙◌, ◌+◌, ◌-◌, ◌<◌, refl, ap, sym, subst, arith, List, length, drop, map, get_or, Some}
use Rattle.std.proofs.lemmas.Option.{slice_get_read}
use Rattle.std.specs.Prelude.{slice_get}
use Rattle.core_ir.specs.declared.code.Exit.{Exit}
use Rattle.core_ir.specs.declared.code.Exit.TheVariants as exit
use Rattle.core_ir.specs.declared.expression.Binding.TheVariants as B
use Rattle.core_ir.specs.declared.expression.Expression.{Expression}
use Rattle.core_ir.specs.Code as code
use Rattle.core_ir.specs.Expressions as tree
use Rattle.core_ir.specs.Expressions.{Exp}
use Rattle.core_ir.specs.CodeView.{code_of}
use Rattle.core_ir.specs.View.{expression, goal, binding, block, exps}
use Rattle.core_laws.specs.Slots.{place, first}
use Rattle.core_laws.specs.Split.{split_exp, split_goal}
use Rattle.suspend_split.specs.declared.bindings.Opening.{Opening}
use Rattle.suspend_split.specs.declared.draft.Draft.{Draft}
use Rattle.suspend_split.specs.declared.draft.State.{State}
use Rattle.suspend_split.specs.Bindings.{OpensFirst, nowhere}
use Rattle.suspend_split.specs.Drafts.{draft_code}
use Rattle.suspend_split.specs.Kinds.{inner}
use Rattle.suspend_split.specs.Makes.{Begins, Making, Makes, MakesInside, size_of}
use Rattle.suspend_split.proofs.Before.{make_is, if_is, match_is, label_is}
use Rattle.suspend_split.proofs.Constructs.{await_makes, choice_makes, match_makes, loop_makes, caught_makes, try_makes}
use Rattle.suspend_split.proofs.ExpressionViews.{await_is, block_is, choose_is, do_is, loop_is, match_goal_is, try_is}
use Rattle.suspend_split.proofs.Making.{agree_before, grows_then, scopes_first}
use Rattle.suspend_split.proofs.Steps.{arguments_more, do_makes, block_value, block_functions}
use Rattle.suspend_split.proofs.expression.+splitting.Goals as goal

pub split_arguments-loop-number-preserved : goal.split_arguments-loop-number-preserved
split_arguments-loop-number-preserved t c =
    let n = c.loop-number.number in
    let w = c.loop-number.invariant.within in
    record {
      within = omega (arith, w);
      makes = arguments_more c.args.sizes.now c.args.outermost.now c.args.state.now c.loop-number.state _ c.args.arguments.now c.index-arguments-number.result (n - 1) n c.args.free c.in_ok-slot.slot c.in_ok-behind.behind c.args.scope _
          (omega (arith, w)) c.index-arguments-number.is (omega arith) c.in_ok-slot.ensures c.in_ok-behind.ensures c.place_of.ensures c.loop-number.invariant.makes c.in_ok-split_expression.ensures;
    }

-- ---- the goal, and then the arguments before it

pub split_expression-returns-in_ok-split_arguments-in-Do : goal.split_expression-returns-in_ok-split_arguments-in-Do
split_expression-returns-in_ok-split_arguments-in-Do t c =
    let o = c.args.outermost.now in
    let es = c.as_slice-arguments.result.now in
    subst (λ (e : Exp). Makes o c.args.state.now c.split_arguments.new.state (λ names ls k segments. split_exp (size_of c.args.sizes.now) e c.args.target c.args.free (names c.args.scope) ls k segments))
    (sym (ap expression c.in-Do.is ∙ do_is c.in-Do.goal c.in-Do.arguments ∙ ap (λ es. tree.Do (goal c.in-Do.goal) (exps (map expression es))) (sym c.as_slice-arguments.ensures)))
    (do_makes c.args.sizes.now o c.args.state.now c.split_goal.new.state c.split_arguments.new.state (goal c.in-Do.goal) es c.in_ok-operands-in-Do.operands c.args.target c.args.free c.in_ok-behind-in-Do.behind c.args.scope c.requires.within
    c.in_ok-operands-in-Do.ensures c.in_ok-behind-in-Do.ensures
    (subst (λ xs. Makes o c.args.state.now c.split_goal.new.state (λ names ls k segments. split_goal (size_of c.args.sizes.now) (goal c.in-Do.goal) xs c.args.target c.in_ok-behind-in-Do.behind (names c.args.scope) ls k segments)) c.as_slice.ensures c.in_ok-split_goal-in-Do.ensures)
    c.in_ok-split_arguments-in-Do.ensures)

pub split_expression-returns-in_ok-split_loop-in-Loop : goal.split_expression-returns-in_ok-split_loop-in-Loop
split_expression-returns-in_ok-split_loop-in-Loop t c =
    subst (λ (e : Exp). Makes c.args.outermost.now c.args.state.now c.split_loop.new.state (λ names ls k segments. split_exp (size_of c.args.sizes.now) e c.args.target c.args.free (names c.args.scope) ls k segments))
    (sym (ap expression c.in-Loop.is ∙ loop_is c.in-Loop.body ∙ ap (λ b. tree.Loop (expression b)) (sym c.get.ensures))) (c.in_ok-split_loop-in-Loop.ensures c.args.target)

-- ---- loops and handlers

pub split_loop-returns-then-expression_awaits : goal.split_loop-returns-then-expression_awaits
split_loop-returns-then-expression_awaits t c u =
    loop_makes c.args.sizes.now c.args.outermost.now c.args.state.now c.split_inside.new.state c.add.new.self c.fill.new.self c.new.result c.in_ok-code.code (expression c.args.body.now) u c.args.free c.in_ok-segment.segment c.args.scope
    (sym c.expression_awaits.ensures ∙ c.if-expression_awaits.true) c.in_ok-segment.ensures.number c.in_ok-segment.ensures.added c.in_ok-code.ensures c.fill.ensures c.new.ensures

-- ---- bindings

pub split_bindings-loop-number-preserved-in-Continue-branch-2 : goal.split_bindings-loop-number-preserved-in-Continue-branch-2
split_bindings-loop-number-preserved-in-Continue-branch-2 t c =
    let o = c.args.outermost.now in
    let sizes = c.args.sizes.now in
    let bs = c.args.bindings.now in
    let places = c.args.openings.now in
    let w = c.loop-number.invariant.within in
    let m = c.loop-number.number in
    let n = m - 1 in
    let first_state : State = c.args.state.now in
    let old : State = c.loop-number.state in
    let new : State = c.split_expression.new.state in
    let v = c.in-Value.value in
    let step = c.in_ok-split_expression-in-Value.ensures in
    let at : Opening = get_or places n nowhere in
    let inside : Opening = get_or places m nowhere in
    let here : c.opening_at-opening.result ≡ at = c.opening_at-opening.ensures.is in
    let l : n < length bs = omega (arith, w) in
    let e : m ≡ suc n = omega arith in
    let read : slice_get bs n ≡ Some (B.Value v) = slice_get_read bs (length bs) n c.index-bindings-number.result refl l c.index-bindings-number.is ∙ ap Some c.in-Value.is in
    record {
      within = omega (arith, w);
      grows = grows_then first_state.scopes old.scopes new.scopes c.loop-number.invariant.grows step.scopes;
      makes = λ a begins x y b target opens grows f.
          let g = grows_then y old.scopes new.scopes (grows_then y first_state.scopes old.scopes grows c.loop-number.invariant.grows) step.scopes in
          block_value sizes o a old new bs b v n m at inside c.place_of-slot.result target c.in_ok-behind-in-Value.behind l read (omega arith)
          (ap (λ k. (get_or places k nowhere).free) e ∙ opens.frees n (B.Value v) l read)
          (λ names ok. ap (λ k. names (get_or places k nowhere).scope) e ∙ opens.binds names (agree_before o y new.scopes names g ok) n (B.Value v) l read)
          (c.place_of-slot.ensures ∙ ap (λ (p : Opening). place (expression v) p.free) here) (c.in_ok-behind-in-Value.ensures ∙ ap (λ (p : Opening). p.free + 1) here) (c.loop-number.invariant.makes a begins x y b target opens grows f)
          (subst (λ (p : Opening). Makes o old new (λ names ls k segments. split_exp (size_of sizes) (expression v) c.place_of-slot.result c.in_ok-behind-in-Value.behind (names p.scope) ls k segments)) here step);
    }

pub split_bindings-loop-number-preserved : goal.split_bindings-loop-number-preserved
split_bindings-loop-number-preserved t c =
    let o = c.args.outermost.now in
    let sizes = c.args.sizes.now in
    let bs = c.args.bindings.now in
    let places = c.args.openings.now in
    let w = c.loop-number.invariant.within in
    let m = c.loop-number.number in
    let n = m - 1 in
    let first_state : State = c.args.state.now in
    let old : State = c.loop-number.state in
    let k = c.in-Functions.group in
    let at : Opening = get_or places n nowhere in
    let inside : Opening = get_or places m nowhere in
    let here : c.opening_at-opening.result ≡ at = c.opening_at-opening.ensures.is in
    let l : n < length bs = omega (arith, w) in
    let e : m ≡ suc n = omega arith in
    let read : slice_get bs n ≡ Some (B.Functions k) = slice_get_read bs (length bs) n c.index-bindings-number.result refl l c.index-bindings-number.is ∙ ap Some c.in-Functions.is in
    record {
      within = omega (arith, w);
      grows = c.loop-number.invariant.grows;
      makes = λ a begins x y b target opens grows f.
          let g = grows_then y first_state.scopes old.scopes grows c.loop-number.invariant.grows in
          block_functions sizes o a old c.put.new.self bs b k n m at inside target l read (omega arith)
          (ap (λ k. (get_or places k nowhere).free) e ∙ opens.frees n (B.Functions k) l read)
          (λ names ok. ap (λ k. names (get_or places k nowhere).scope) e ∙ opens.binds names (agree_before o y old.scopes names g ok) n (B.Functions k) l read)
          (λ names. c.in_ok-put-in-Functions.ensures names ∙ make_is _ _ k names (draft_code names old.draft) ∙ ap (λ (p : Opening). code.Make p.free (names p.scope) k (draft_code names old.draft)) here)
          (c.loop-number.invariant.makes a begins x y b target opens grows f);
    }

pub split_bindings-returns-clause-makes : goal.split_bindings-returns-clause-makes
split_bindings-returns-clause-makes t c a begins x y b target opens grows f =
    let o = c.args.outermost.now in
    let bs = c.args.bindings.now in
    let places = c.args.openings.now in
    let done : State = c.loop-number.state in
    subst (λ (p : Opening). Makes o a done (λ names ls k segments. split_exp (size_of c.args.sizes.now) (block (map binding bs) b) target p.free (names p.scope) ls k segments)) opens.begins
    (subst (λ n. Makes o a done (λ names ls k segments. split_exp (size_of c.args.sizes.now) (block (map binding (drop n bs)) b) target (get_or places n nowhere).free (names (get_or places n nowhere).scope) ls k segments)) (let e : c.loop-number.number ≡ 0 = omega arith in e)
    (c.loop-number.invariant.makes a begins x y b target opens grows f))

pub split_expression-returns-in_ok-split_bindings-in-Block : goal.split_expression-returns-in_ok-split_bindings-in-Block
split_expression-returns-in_ok-split_bindings-in-Block t c =
    let o = c.args.outermost.now in
    let sizes = c.args.sizes.now in
    let bs = c.as_slice-bindings.result.now in
    let a : State = c.args.state.now in
    let done : State = c.split_bindings.new.state in
    let mid : State = c.split_expression.new.state in
    let v : Exp = expression c.get-value.result.now in
    let opens = c.in_ok-openings-in-Block.ensures in
    let places = c.in_ok-openings-in-Block.openings.items in
    let ps = c.deref-in-Block.result.now in
    let same : ps ≡ places = c.deref-in-Block.ensures.value in
    let last : c.opening_at-last.result ≡ get_or ps (length bs) nowhere = c.opening_at-last.ensures.is ∙ ap (λ (xs : List Opening). get_or xs (length bs) nowhere) (c.deref.ensures.value ∙ sym same) in
    subst (λ (e : Exp). Makes o a done (λ names ls k segments. split_exp (size_of sizes) e c.args.target c.args.free (names c.args.scope) ls k segments))
    (sym (ap expression c.in-Block.is ∙ block_is c.in-Block.bindings c.in-Block.value ∙ ap (λ bs. block (map binding bs) (expression c.in-Block.value)) (sym c.as_slice-bindings.ensures) ∙ ap (λ v. block (map binding bs) (expression v)) (sym c.get-value.ensures)))
    (c.in_ok-split_bindings-in-Block.ensures.makes a (record { scope = c.args.scope; free = c.args.free }) a.scopes c.open_all.new.scopes v c.args.target
    (subst (λ (xs : List Opening). OpensFirst o sizes bs (record { scope = c.args.scope; free = c.args.free }) (length bs) xs a.scopes c.open_all.new.scopes) (sym same) opens) c.in_ok-split_expression-in-Block.ensures.scopes
    (subst (λ (p : Opening). Makes o a mid (λ names ls k segments. split_exp (size_of sizes) v c.args.target p.free (names p.scope) ls k segments)) last
    (scopes_first o a _ mid _ refl refl refl opens.grows c.in_ok-split_expression-in-Block.ensures)))

-- ---- branches

pub split_goal-returns-in_ok-put-in-Choose : goal.split_goal-returns-in_ok-put-in-Choose
split_goal-returns-in_ok-put-in-Choose t c =
    let o = c.args.outermost.now in
    let sizes = size_of c.args.sizes.now in
    let a : State = c.args.state.now in
    let d : State = c.split_inside-in-Choose.new.state in
    let last : Draft = c.put-in-Choose.new.self in
    let p = c.in-Choose.primitive in
    let xs = c.args.operands.now in
    let y = c.in_ok-yes-in-Choose.yes in
    let n = c.in_ok-no-in-Choose.no in
    let ea : Exp = expression c.get-yes.result.now in
    let eb : Exp = expression c.get-no.result.now in
    let scope = c.args.scope in
    let whole : Making = λ names ls k segments. split_goal sizes (tree.Choose p ea eb) xs c.args.target c.args.free (names scope) ls k segments in
    let other : Making = λ names ls k segments. split_exp sizes eb c.args.target c.args.free (names scope) ls k segments in
    let put : Draft = c.end.new.self.draft in
    let cut = c.either_awaits-cut.result in
    let is : goal c.args.goal.now ≡ tree.Choose p ea eb = ap goal c.in-Choose.is ∙ choose_is p c.in-Choose.yes c.in-Choose.no ∙ ap (λ (y : Expression). tree.Choose p (expression y) (expression c.in-Choose.no)) (sym c.get-yes.ensures) ∙ ap (λ (n : Expression). tree.Choose p ea (expression n)) (sym c.get-no.ensures) in
    subst (λ (g : tree.Goal). Makes o a (record { draft = last; segments = c.end.new.self.segments; scopes = c.end.new.self.scopes; around = c.end.new.self.around }) (λ names ls k segments. split_goal sizes g xs c.args.target c.args.free (names scope) ls k segments)) (sym is)
    (subst (λ (s : State). Makes o a (record { draft = last; segments = s.segments; scopes = s.scopes; around = s.around }) whole) (sym c.end.ensures)
    (choice_makes c.args.sizes.now o cut a c.begin.new.self c.split_inside.new.state d last c.next-exit.result y n p xs ea eb c.args.target c.args.free scope
    c.either_awaits-cut.ensures (subst (λ (x : Exit). Begins cut a c.begin.new.self x) (sym c.next-exit.ensures) c.in_ok-segment-in-Choose.ensures) c.in_ok-yes-in-Choose.ensures
    (subst (λ (x : Exit). MakesInside o c.split_inside.new.state d x n other) (c.next-exit-in-Choose.ensures ∙ sym c.next-exit.ensures) c.in_ok-no-in-Choose.ensures)
    (λ names. c.in_ok-put-in-Choose.ensures names ∙ if_is c.in_ok-primitive-in-Choose.primitive c.in_ok-operands-in-Choose.operands y n names (draft_code names put)
    ∙ ap (λ p. code.If p c.in_ok-operands-in-Choose.operands (code_of y names) (code_of n names) (draft_code names put)) c.in_ok-primitive-in-Choose.ensures
    ∙ ap (λ xs. code.If p xs (code_of y names) (code_of n names) (draft_code names put)) c.in_ok-operands-in-Choose.ensures
    ∙ ap (λ (s : State). code.If p xs (code_of y names) (code_of n names) (draft_code names s.draft)) c.end.ensures)))

pub split_goal-returns-in_ok-put-in-Match : goal.split_goal-returns-in_ok-put-in-Match
split_goal-returns-in_ok-put-in-Match t c =
    let o = c.args.outermost.now in
    let sizes = size_of c.args.sizes.now in
    let z : State = c.args.state.now in
    let a : State = record { draft = z.draft; segments = z.segments; scopes = c.add.new.self; around = z.around } in
    let d : State = c.split_inside-in-Match-2.new.state in
    let last : Draft = c.put-in-Match.new.self in
    let k = c.in-Match.constructor in
    let xs = c.args.operands.now in
    let y = c.in_ok-yes-in-Match.yes in
    let n = c.in_ok-no-in-Match.no in
    let ea : Exp = expression c.get-yes-in-Match.result.now in
    let eb : Exp = expression c.get-no-in-Match.result.now in
    let scope = c.args.scope in
    let h = c.args.free in
    let cut = c.either_awaits-cut-in-Match.result in
    let behind = c.in_ok-behind-in-Match.behind in
    let put : Draft = c.end-in-Match.new.self.draft in
    let whole : Making = λ names ls x segments. split_goal sizes (tree.Match k ea eb) xs c.args.target h (names scope) ls x segments in
    let other : Making = λ names ls x segments. split_exp sizes eb c.args.target behind (names scope) ls x segments in
    let is : goal c.args.goal.now ≡ tree.Match k ea eb = ap goal c.in-Match.is ∙ match_goal_is k c.in-Match.yes c.in-Match.no ∙ ap (λ (y : Expression). tree.Match k (expression y) (expression c.in-Match.no)) (sym c.get-yes-in-Match.ensures) ∙ ap (λ (n : Expression). tree.Match k ea (expression n)) (sym c.get-no-in-Match.ensures) in
    subst (λ (g : tree.Goal). Makes o z (record { draft = last; segments = c.end-in-Match.new.self.segments; scopes = c.end-in-Match.new.self.scopes; around = c.end-in-Match.new.self.around }) (λ names ls x segments. split_goal sizes g xs c.args.target h (names scope) ls x segments)) (sym is)
    (subst (λ (s : State). Makes o z (record { draft = last; segments = s.segments; scopes = s.scopes; around = s.around }) whole) (sym c.end-in-Match.ensures)
    (match_makes c.args.sizes.now o cut z a c.begin-in-Match.new.self c.split_inside-in-Match.new.state d last c.next-exit-in-Match.result y n k xs ea eb c.args.target h behind scope c.in_ok-inner-in-Match.inner
    c.either_awaits-cut-in-Match.ensures c.in_ok-behind-in-Match.ensures refl refl refl c.in_ok-inner-in-Match.ensures.added c.in_ok-inner-in-Match.ensures.number c.requires.within
    (subst (λ (x : Exit). Begins cut a c.begin-in-Match.new.self x) (sym c.next-exit-in-Match.ensures) c.in_ok-segment-in-Match.ensures) c.in_ok-yes-in-Match.ensures
    (subst (λ (x : Exit). MakesInside o c.split_inside-in-Match.new.state d x n other) (c.next-exit-in-Match-2.ensures ∙ sym c.next-exit-in-Match.ensures) c.in_ok-no-in-Match.ensures)
    (λ names. c.in_ok-put-in-Match.ensures names ∙ match_is h c.in_ok-constructor-in-Match.constructor c.in_ok-operand-in-Match.operand y n names (draft_code names put)
    ∙ ap (λ k. code.Match h k c.in_ok-operand-in-Match.operand (code_of y names) (code_of n names) (draft_code names put)) c.in_ok-constructor-in-Match.ensures
    ∙ ap (λ x. code.Match h k x (code_of y names) (code_of n names) (draft_code names put)) c.in_ok-operand-in-Match.ensures
    ∙ ap (λ (s : State). code.Match h k (first xs) (code_of y names) (code_of n names) (draft_code names s.draft)) c.end-in-Match.ensures)))

pub split_goal-returns-in_ok-segment-in-Await : goal.split_goal-returns-in_ok-segment-in-Await
split_goal-returns-in_ok-segment-in-Await t c =
    let o = c.args.outermost.now in
    let b : State = c.cut.new.self in
    subst (λ (g : tree.Goal). Makes o c.args.state.now (record { draft = c.new-in-Await.result; segments = b.segments; scopes = b.scopes; around = b.around }) (λ names ls x segments. split_goal (size_of c.args.sizes.now) g c.args.operands.now c.args.target c.args.free (names c.args.scope) ls x segments))
    (sym (ap goal c.in-Await.is ∙ await_is))
    (await_makes c.args.sizes.now o c.args.state.now b c.new-in-Await.result c.args.operands.now c.args.target c.args.free c.args.scope c.slot_of-slot.result c.in_ok-segment-in-Await.segment c.in_ok-future-in-Await.future c.in_ok-handler-in-Await.handler
    c.slot_of-slot.ensures c.in_ok-future-in-Await.ensures c.in_ok-handler-in-Await.ensures c.in_ok-segment-in-Await.ensures.cut c.in_ok-segment-in-Await.ensures.number c.in_ok-segment-in-Await.ensures.scopes c.in_ok-segment-in-Await.ensures.around c.new-in-Await.ensures)

-- ---- handlers

pub split_expression-returns-then-cut : goal.split_expression-returns-then-cut
split_expression-returns-then-cut t c =
    let o = c.args.outermost.now in
    let z : State = c.args.state.now in
    let a : State = record { draft = z.draft; segments = z.segments; scopes = c.add.new.self; around = z.around } in
    let into : State = c.split_inside.new.state in
    let d : State = c.split_expression-then-cut.new.state in
    let ea : Exp = expression c.get-body.result.now in
    let eb : Exp = expression c.get-handler.result.now in
    let behind = c.in_ok-behind-in-Try.behind in
    let whole : Making = λ names ls x segments. split_exp (size_of c.args.sizes.now) (expression c.args.expression.now) c.args.target c.args.free (names c.args.scope) ls x segments in
    let body : Making = λ names ls x segments. split_exp (size_of c.args.sizes.now) ea c.args.target behind (names c.args.scope) ls x segments in
    let is : expression c.args.expression.now ≡ tree.Try ea eb = ap expression c.in-Try.is ∙ try_is c.in-Try.body c.in-Try.handler ∙ ap (λ (y : Expression). tree.Try (expression y) (expression c.in-Try.handler)) (sym c.get-body.ensures) ∙ ap (λ (n : Expression). tree.Try ea (expression n)) (sym c.get-handler.ensures) in
    subst (λ ls. Makes o z (record { draft = d.draft; segments = d.segments; scopes = d.scopes; around = ls }) whole) (sym c.leave.ensures)
    (subst (λ (e : Exp). Makes o z (record { draft = d.draft; segments = d.segments; scopes = d.scopes; around = inner d.around }) (λ names ls x segments. split_exp (size_of c.args.sizes.now) e c.args.target c.args.free (names c.args.scope) ls x segments)) (sym is)
    (caught_makes c.args.sizes.now o z a c.cut.new.self into d c.add-then-cut.new.self c.new.result c.in_ok-caught-in-Try.caught ea eb c.args.target c.args.free behind c.args.scope c.in_ok-inner-in-Try.inner c.in_ok-segment-in-Try.segment c.in_ok-catching-in-Try.catching
    (sym c.either_awaits-cut.ensures ∙ c.if-cut.true) c.in_ok-behind-in-Try.ensures refl refl refl c.in_ok-inner-in-Try.ensures.added c.in_ok-inner-in-Try.ensures.number c.requires.within
    c.in_ok-segment-in-Try.ensures.cut c.in_ok-segment-in-Try.ensures.number c.in_ok-segment-in-Try.ensures.scopes c.in_ok-segment-in-Try.ensures.around c.in_ok-caught-in-Try.ensures c.in_ok-catching-in-Try.ensures.added c.in_ok-catching-in-Try.ensures.number c.new.ensures
    (subst (λ ls. Makes o (record { draft = c.new.result; segments = c.add-then-cut.new.self; scopes = into.scopes; around = ls }) d body) c.in_ok-enter-in-Try.ensures c.in_ok-split_expression-in-Try.ensures)))

pub split_expression-returns-in_ok-put-in-Try-2 : goal.split_expression-returns-in_ok-put-in-Try-2
split_expression-returns-in_ok-put-in-Try-2 t c =
    let o = c.args.outermost.now in
    let z : State = c.args.state.now in
    let a : State = record { draft = z.draft; segments = z.segments; scopes = c.add.new.self; around = c.enter-in-Try.new.self } in
    let into : State = c.split_aside.new.state in
    let d : State = c.split_inside-in-Try.new.state in
    let last : Draft = c.put-in-Try.new.self in
    let ea : Exp = expression c.get-body.result.now in
    let eb : Exp = expression c.get-handler.result.now in
    let behind = c.in_ok-behind-in-Try.behind in
    let caught : Draft = c.in_ok-caught-in-Try-2.caught in
    let b = c.in_ok-code-in-Try.code in
    let whole : Making = λ names ls x segments. split_exp (size_of c.args.sizes.now) (expression c.args.expression.now) c.args.target c.args.free (names c.args.scope) ls x segments in
    let body : Making = λ names ls x segments. split_exp (size_of c.args.sizes.now) ea c.args.target behind (names c.args.scope) ls x segments in
    let is : expression c.args.expression.now ≡ tree.Try ea eb = ap expression c.in-Try.is ∙ try_is c.in-Try.body c.in-Try.handler ∙ ap (λ (y : Expression). tree.Try (expression y) (expression c.in-Try.handler)) (sym c.get-body.ensures) ∙ ap (λ (n : Expression). tree.Try ea (expression n)) (sym c.get-handler.ensures) in
    subst (λ ls. Makes o z (record { draft = last; segments = d.segments; scopes = d.scopes; around = ls }) whole) (sym (c.leave-in-Try-2.ensures ∙ ap inner c.leave-in-Try.ensures))
    (subst (λ (e : Exp). Makes o z (record { draft = last; segments = d.segments; scopes = d.scopes; around = inner (inner d.around) }) (λ names ls x segments. split_exp (size_of c.args.sizes.now) e c.args.target c.args.free (names c.args.scope) ls x segments)) (sym is)
    (try_makes c.args.sizes.now o z a into d caught last b ea eb c.args.target c.args.free behind c.args.scope c.in_ok-inner-in-Try.inner
    (sym c.either_awaits-cut.ensures ∙ c.if-cut.false) c.in_ok-behind-in-Try.ensures refl refl c.in_ok-enter-in-Try-2.ensures c.in_ok-inner-in-Try.ensures.added c.in_ok-inner-in-Try.ensures.number c.requires.within
    c.in_ok-caught-in-Try-2.ensures
    (subst (λ ls. MakesInside o (record { draft = into.draft; segments = into.segments; scopes = into.scopes; around = ls }) d (exit.Branch 1) b body) c.in_ok-enter-in-Try-3.ensures c.in_ok-code-in-Try.ensures)
    (λ names. c.in_ok-put-in-Try-2.ensures names ∙ label_is c.in_ok-code-in-Try-2.code names (draft_code names d.draft)
    ∙ ap (λ x. code.Label x (draft_code names d.draft)) (c.in_ok-code-in-Try-2.ensures names ∙ c.in_ok-put-in-Try.ensures names ∙ label_is b names (draft_code names caught)))))
