-- Each step follows the meaning: what it leads to stands for the same execution.
use Rattle.std.proofs.Common.{◌≡◌, ℕ, zero, suc, ◌+◌, ◌-◌, ◌≤◌, Bool, true, false, List, [], ◌∷◌, ◌++◌, length, take, drop, Option, Some, inl, inr, refl, sym, ap, ◌∙◌, subst, arith, cond, append_assoc, append-nil, length-append, length-take}
use Rattle.std.specs.Prelude.{slice_get, min, nat_eq}
use Rattle.std.proofs.lemmas.List.{take-append-le, take_all}
use Rattle.std.proofs.lemmas.Bool.{cases_lt}
use Rattle.std.proofs.Math.Seq.{drop-append_seam}
use Rattle.std.proofs.Math.Nat.{min-eq_left, min-eq_right, min-le_right}
use Rattle.wasm_tree.specs.declared.trap.Trap.{Trap}
use Rattle.wasm_tree.specs.declared.trap.Trap.TheVariants as trap
use Rattle.wasm_tree.specs.declared.types.ValueType.{ValueType}
use Rattle.wasm_tree.specs.declared.types.ValueType.TheVariants.{I32}
use Rattle.wasm_tree.specs.declared.op.Plain.{Plain}
use Rattle.wasm_tree.specs.declared.op.Plain.TheVariants as plain
use Rattle.wasm_tree.specs.declared.module_parts.Module.{Module}
use Rattle.wasm_tree.specs.Code.{Code, Stop, Then, Unreachable, Block, Loop, If, IfElse, Br, BrIf, BrTable, Return, Call, CallIndirect}
use Rattle.wasm_tree.specs.Valid.{results_of}
use Rattle.wasm_tree.specs.Numeric.{low}
use Rattle.wasm_tree.specs.Exec.{ExecutionLimits, Store, State, Outcome, Falls, Branches, Returns, Traps, Did, Goes, Fails, Lacks, act, tick_of, then_do, leave, label_at, Calls, exec}
use Rattle.wasm_tree.specs.Frames.{taken, given}
use Rattle.wasm_steps.specs.declared.step.Label.{Label}
use Rattle.wasm_steps.specs.declared.step.Step.{Step}
use Rattle.wasm_steps.specs.declared.step.Step.TheVariants as step
use Rattle.wasm_steps.specs.Steps.{laid_step, label}
use Rattle.wasm_steps.specs.Layout.{size, IsBranch, Laid}
use Rattle.wasm_steps.specs.Moves.{Final, Done, Trapped, Next, On, counted_of, onward, slide, go, entry_label, go_to, does, move_by, move}
use Rattle.wasm_steps.specs.Follow.{Frugal, Around, Body, InBlock, InLoop, under, base, labels, results, end_of, LaidAround, loop, resume, Stands, Good}
use Rattle.wasm_steps.proofs.Loops.{turn, state}
use Rattle.wasm_steps.proofs.Over.{over, Counts, is_local}

pub base_is : (k : Around) → length (under k) ≡ base k
base_is (Body end keep) = refl
base_is (InBlock stop to keep below rest k) = omega (arith, length-append below (under k), base_is k)
base_is (InLoop from to kind body below rest k) = omega (arith, length-append below (under k), base_is k)

-- the operands at a label's height
cut_at : (pre tail : List ℕ) → drop (length (pre ++ tail) - length tail) (pre ++ tail) ≡ tail
cut_at pre tail =
    let e : length (pre ++ tail) - length tail ≡ length pre = omega (arith, length-append pre tail) in
    rw e (drop-append_seam pre tail)

slide_is : (vs all pre tail : List ℕ) (keep height : ℕ) → all ≡ pre ++ tail → length tail ≡ height → keep ≤ length vs → take keep vs ++ tail ≡ slide keep height (vs ++ all)
slide_is vs all pre tail keep height split len enough =
    let front : take keep (vs ++ all) ≡ take keep vs = take-append-le keep vs all enough in
    let whole : vs ++ all ≡ (vs ++ pre) ++ tail = ap (λ t. vs ++ t) split ∙ sym (append_assoc vs pre tail) in
    let back : drop (length (vs ++ all) - height) (vs ++ all) ≡ tail = subst (λ h. drop (length (vs ++ all) - h) (vs ++ all) ≡ tail) len (subst (λ t. drop (length t - length tail) t ≡ tail) (sym whole) (cut_at (vs ++ pre) tail)) in
    sym (ap (λ t. t ++ drop (length (vs ++ all) - height) (vs ++ all)) front ∙ ap (λ t. take keep vs ++ t) back)

-- a number past the table is as good as its length
label_past : (ls : List ℕ) (last i : ℕ) → length ls ≤ i → label_at ls last i ≡ last
label_past [] last i h = refl
label_past (l ∷ ls) last zero h = absurd (omega arith)
label_past (l ∷ ls) last (suc i) h = label_past ls last i (omega arith)

label_min : (ls : List ℕ) (last i : ℕ) → label_at ls last i ≡ label_at ls last (min i (length ls))
label_min ls last i =
    elim (cases_lt i (length ls)) [
      | inl lt ↦ sym (ap (λ j. label_at ls last j) (min-eq_left (let h : i ≤ length ls = omega arith in h)))
      | inr ge ↦ label_past ls last i ge ∙ sym (label_past ls last (min i (length ls)) (let e : min i (length ls) ≡ length ls = min-eq_right ge in omega arith))
    ]

module _ {World : Type 0} (limits : ExecutionLimits) (m : Module) (calls : Calls World) (frugal : Frugal calls) where
  pub traps_out : (k : Around) (cause : Trap) (store : Store World) → resume limits m calls k (Traps cause store) ≡ Trapped cause store
  traps_out (Body end keep) cause store = refl
  traps_out (InBlock stop to keep below rest k) cause store = traps_out k cause store
  traps_out (InLoop from to kind body below rest k) cause store = traps_out k cause store

  returns_out : (k : Around) (keep : ℕ) (s : State World) (vs : List ℕ) (steps : List Step) (locals room : ℕ) → LaidAround m steps locals room keep k → resume limits m calls k (Returns s vs) ≡ Done s.left s.store (take keep vs)
  returns_out (Body end out) keep s vs steps locals room kept = ap (λ j. Done s.left s.store (take j vs)) kept.1
  returns_out (InBlock stop to out below rest k) keep s vs steps locals room kept = returns_out k keep s vs steps locals room kept.3
  returns_out (InLoop from to kind body below rest k) keep s vs steps locals room kept = returns_out k keep s vs steps locals room kept.3

  module _ (steps : List Step) (locals room keep : ℕ) where
    -- where a branch arrives, and the operands that stay
    record Arrives (whole : Final World) (x : Label) (s : State World) (vs all : List ℕ) : Type 0 where
      pre : List ℕ
      tail : List ℕ
      split : all ≡ pre ++ tail
      height : length tail ≡ x.height
      stands : Stands limits m calls steps locals room keep whole x.to s (take x.keep vs ++ tail)

    arrives : (k : Around) (l : ℕ) (x : Label) (s : State World) (vs : List ℕ) → LaidAround m steps locals room keep k → slice_get (labels k) l ≡ Some x → x.keep ≤ length vs → Arrives (resume limits m calls k (Branches l s vs)) x s vs (under k)
    arrives (Body end out) zero x s vs kept at enough =
        let e : label end 0 out ≡ x = cc in
        subst (λ y. y.keep ≤ length vs → Arrives (Done s.left s.store (take out vs)) y s vs []) e at_end enough
      where
        at_end : out ≤ length vs → Arrives (Done s.left s.store (take out vs)) (label end 0 out) s vs []
        at_end h =
            let len : length (take out vs) ≡ out = omega (arith, length-take out vs) in
            record {
              pre = [];
              tail = [];
              split = refl;
              height = refl;
              stands = record {
                code = Stop;
                around = Body end out;
                own = take out vs;
                means = ap (λ t. Done s.left s.store t) (take_all out (take out vs) (omega arith));
                held = refl;
                laid = len;
                kept = kept;
                ends = omega arith;
              };
            }
    arrives (Body end out) (suc l) x s vs kept at enough = absurd (grind (arith, at))
    arrives (InBlock stop to out below rest k) zero x s vs kept at enough =
        let e : label to (base k + length below) out ≡ x = cc in
        subst (λ y. y.keep ≤ length vs → Arrives (resume limits m calls k (exec limits m calls rest s (take out vs ++ below))) y s vs (below ++ under k)) e here enough
      where
        here : out ≤ length vs → Arrives (resume limits m calls k (exec limits m calls rest s (take out vs ++ below))) (label to (base k + length below) out) s vs (below ++ under k)
        here h =
            let len : length below + out ≡ length (take out vs ++ below) = omega (arith, length-append (take out vs) below, length-take out vs) in
            record {
              pre = [];
              tail = below ++ under k;
              split = refl;
              height = omega (arith, length-append below (under k), base_is k);
              stands = record {
                code = rest;
                around = k;
                own = take out vs ++ below;
                means = refl;
                held = sym (append_assoc (take out vs) below (under k));
                laid = subst (λ j. Laid m steps locals room keep to (labels k) (base k) (results k) j rest) len kept.1;
                kept = kept.3;
                ends = kept.2;
              };
            }
    arrives (InBlock stop to out below rest k) (suc l) x s vs kept at enough =
        let a = arrives k l x s vs kept.3 at enough in
        record {
          pre = below ++ a.pre;
          tail = a.tail;
          split = ap (λ t. below ++ t) a.split ∙ sym (append_assoc below a.pre a.tail);
          height = a.height;
          stands = a.stands;
        }
    arrives (InLoop from to kind body below rest k) zero x s vs kept at enough =
        let e : label from (base k + length below) 0 ≡ x = cc in
        subst (λ y. Arrives (resume limits m calls k (leave (length (results_of kind)) below (loop limits m calls body s) (exec limits m calls rest))) y s vs (below ++ under k)) e here
      where
        here : Arrives (resume limits m calls k (leave (length (results_of kind)) below (loop limits m calls body s) (exec limits m calls rest))) (label from (base k + length below) 0) s vs (below ++ under k)
        here =
            record {
              pre = [];
              tail = below ++ under k;
              split = refl;
              height = omega (arith, length-append below (under k), base_is k);
              stands = record {
                code = Loop kind body rest;
                around = k;
                own = below;
                means = refl;
                held = refl;
                laid = kept.1;
                kept = kept.3;
                ends = let e1 = kept.0 in let e2 = kept.2 in omega arith;
              };
            }
    arrives (InLoop from to kind body below rest k) (suc l) x s vs kept at enough =
        let a = arrives k l x s vs kept.3 at enough in
        record {
          pre = below ++ a.pre;
          tail = a.tail;
          split = ap (λ t. below ++ t) a.split ∙ sym (append_assoc below a.pre a.tail);
          height = a.height;
          stands = a.stands;
        }

    -- a branch
    goes : (k : Around) (l : ℕ) (x : Label) (s : State World) (vs : List ℕ) → LaidAround m steps locals room keep k → slice_get (labels k) l ≡ Some x → x.keep ≤ length vs → Stands limits m calls steps locals room keep (resume limits m calls k (Branches l s vs)) x.to s (slide x.keep x.height (vs ++ under k))
    goes k l x s vs kept at enough =
        let a = arrives k l x s vs kept at enough in
        let same : take x.keep vs ++ a.tail ≡ slide x.keep x.height (vs ++ under k) = slide_is vs (under k) a.pre a.tail x.keep x.height a.split a.height enough in
        subst (λ o. Stands limits m calls steps locals room keep (resume limits m calls k (Branches l s vs)) x.to s o) same a.stands

    abbrev Fine : Final World → Next World → Type 0
    Fine whole next = Good limits m calls steps locals room keep whole next

    -- a plain instruction
    plain_goes : (k : Around) (rest : Code) (own : List ℕ) (takes gives after : ℕ) (whole : Final World) (place : ℕ) (s : State World) (d : Did World) → Counts takes gives s.left (length own) d → resume limits m calls k (then_do s d (exec limits m calls rest)) ≡ whole → after + takes ≡ length own + gives → Laid m steps locals room keep (place + 1) (labels k) (base k) (results k) after rest → LaidAround m steps locals room keep k → place + 1 + size rest ≡ end_of k → Fine whole (onward (place + 1) s (over (under k) d))
    plain_goes k rest own takes gives after whole place s (Goes t vs) count means sum laid kept ends =
        let same : after ≡ length vs = let h = count.0 in omega arith in
        record {
          code = rest;
          around = k;
          own = vs;
          means = means;
          held = refl;
          laid = subst (λ j. Laid m steps locals room keep (place + 1) (labels k) (base k) (results k) j rest) same laid;
          kept = kept;
          ends = ends;
        }
    plain_goes k rest own takes gives after whole place s (Fails cause) count means sum laid kept ends = (sym (traps_out k cause s.store) ∙ means, tt)
    plain_goes k rest own takes gives after whole place s Lacks count means sum laid kept ends = absurd count

    -- one step is taken, or none is left
    takes_one : (whole : Final World) (k : Around) (n : ℕ) (s : State World) (o : State World → Outcome World) (next : State World → Next World) → resume limits m calls k (tick_of n s o) ≡ whole → ((t : State World) → resume limits m calls k (o t) ≡ whole → Fine whole (next t)) → Fine whole (counted_of n s next)
    takes_one whole k zero s o next means h = (sym (traps_out k trap.Steps s.store) ∙ means, tt)
    takes_one whole k (suc n) s o next means h = h (state n s.store s.locals) means

    at_step : (whole : Final World) (d : Step) (place : ℕ) (s : State World) (vs : List ℕ) → slice_get steps place ≡ Some d → Fine whole (move_by limits m steps (Some d) place s vs) → Fine whole (move limits m steps place s vs)
    at_step whole d place s vs at good = subst (λ o. Fine whole (move_by limits m steps o place s vs)) (sym at) good

    -- the step of a plain instruction does what the instruction does
    laid_moves : (p : Plain) (place : ℕ) (s : State World) (vs : List ℕ) → move_by limits m steps (Some (laid_step p)) place s vs ≡ does limits m steps p place s vs
    laid_moves plain.Nop place s vs = refl
    laid_moves plain.Drop place s vs = refl
    laid_moves plain.Select place s vs = refl
    laid_moves (plain.LocalGet x) place s vs = refl
    laid_moves (plain.LocalSet x) place s vs = refl
    laid_moves (plain.LocalTee x) place s vs = refl
    laid_moves (plain.GlobalGet x) place s vs = refl
    laid_moves (plain.GlobalSet x) place s vs = refl
    laid_moves (plain.Load kind a) place s vs = refl
    laid_moves (plain.Store kind a) place s vs = refl
    laid_moves plain.MemorySize place s vs = refl
    laid_moves plain.MemoryGrow place s vs = refl
    laid_moves (plain.I32Const z) place s vs = refl
    laid_moves (plain.I64Const z) place s vs = refl
    laid_moves (plain.EqualsZero kind) place s vs = refl
    laid_moves (plain.Compare kind c) place s vs = refl
    laid_moves (plain.Unary kind o) place s vs = refl
    laid_moves (plain.Binary kind o) place s vs = refl
    laid_moves (plain.Convert c) place s vs = refl

    -- what each kind of instruction needs to go on
    abbrev Going : Code → Around → Final World → ℕ → State World → List ℕ → Type 0
    Going c k whole place s own =
        resume limits m calls k (exec limits m calls c s own) ≡ whole → Laid m steps locals room keep place (labels k) (base k) (results k) (length own) c → LaidAround m steps locals room keep k → place + size c ≡ end_of k → Fine whole (move limits m steps place s (own ++ under k))

    block : (kind : Option ValueType) (body rest : Code) (k : Around) (whole : Final World) (place : ℕ) (s : State World) (own : List ℕ) → Going (Block kind body rest) k whole place s own
    block kind body rest k whole place s own means laid kept ends =
        at_step whole step.Enter place s _ laid.0 (takes_one whole k s.left s _ _ means (λ t e. record {
          code = body;
          around = InBlock (place + 1 + size body) (place + 1 + size body) (length (results_of kind)) own rest k;
          own = [];
          means = e;
          held = refl;
          laid = laid.1;
          kept = (inl refl, laid.2, omega arith, kept);
          ends = refl;
        }))

    loops_at : (kind : Option ValueType) (body rest : Code) (k : Around) (whole : Final World) (place n : ℕ) (store : Store World) (ls : List ℕ) (own : List ℕ) → Going (Loop kind body rest) k whole place (state n store ls) own
    loops_at kind body rest k whole place zero store ls own means laid kept ends =
        at_step whole step.Enter place _ _ laid.0 (sym (traps_out k trap.Steps store) ∙ means, tt)
    loops_at kind body rest k whole place (suc n) store ls own means laid kept ends =
        at_step whole step.Enter place _ _ laid.0 (record {
          code = body;
          around = InLoop place (place + 1 + size body) kind body own rest k;
          own = [];
          means = sym (ap (λ o. resume limits m calls k (leave (length (results_of kind)) own o (exec limits m calls rest))) (turn limits m calls frugal body n store ls)) ∙ means;
          held = refl;
          laid = laid.1;
          kept = (refl, laid, omega arith, kept);
          ends = refl;
        })

    -- an `if` without a second side
    option : (kind : Option ValueType) (first rest : Code) (k : Around) (whole : Final World) (place : ℕ) (s : State World) (own : List ℕ) → Going (If kind first rest) k whole place s own
    option kind first rest k whole place s [] means laid kept ends = let h : 0 ≡ suc laid.2 = laid.3 in absurd (omega arith)
    option kind first rest k whole place s (v ∷ vs) means laid kept ends =
        at_step whole (step.Test (place + 1 + size first)) place s _ laid.0 (takes_one whole k s.left s _ _ means (λ t. sides t (nat_eq (low I32 v) 0)))
      where
        after : ℕ
        after = place + 1 + size first

        same : laid.2 ≡ length vs
        same = let h : suc (length vs) ≡ suc laid.2 = laid.3 in omega arith

        none : length (results_of kind) ≡ 0
        none = ap (λ o. length (results_of o)) laid.1

        flat : length vs + 0 ≡ length vs
        flat = omega arith

        sides : (t : State World) (b : Bool) → resume limits m calls k (leave (length (results_of kind)) vs (cond b (Falls t []) (exec limits m calls first t [])) (exec limits m calls rest)) ≡ whole → Fine whole (cond b (On after t (vs ++ under k)) (On (place + 1) t (vs ++ under k)))
        sides t true h = record {
          code = rest;
          around = k;
          own = vs;
          means = h;
          held = refl;
          laid = subst (λ i. Laid m steps locals room keep after (labels k) (base k) (results k) i rest) same laid.5;
          kept = kept;
          ends = omega arith;
        }
        sides t false h = record {
          code = first;
          around = InBlock after after 0 vs rest k;
          own = [];
          means = subst (λ j. resume limits m calls k (leave j vs (exec limits m calls first t []) (exec limits m calls rest)) ≡ whole) none h;
          held = refl;
          laid = subst (λ i. Laid m steps locals room keep (place + 1) (label after (base k + i) 0 ∷ labels k) (base k + i) 0 0 first) same laid.4;
          kept = (inl refl, subst (λ i. Laid m steps locals room keep after (labels k) (base k) (results k) i rest) (same ∙ sym flat) laid.5, omega arith, kept);
          ends = refl;
        }

    choice : (kind : Option ValueType) (first second rest : Code) (k : Around) (whole : Final World) (place : ℕ) (s : State World) (own : List ℕ) → Going (IfElse kind first second rest) k whole place s own
    choice kind first second rest k whole place s [] means laid kept ends = let h : 0 ≡ suc laid.1 = laid.2 in absurd (omega arith)
    choice kind first second rest k whole place s (v ∷ vs) means laid kept ends =
        at_step whole (step.Test (place + 1 + size first + 1)) place s _ laid.0 (takes_one whole k s.left s _ _ means (λ t. sides t (nat_eq (low I32 v) 0)))
      where
        j : ℕ
        j = length (results_of kind)

        after : ℕ
        after = place + 1 + size first + 1 + size second

        same : laid.1 ≡ length vs
        same = let h : suc (length vs) ≡ suc laid.1 = laid.2 in omega arith

        sides : (t : State World) (b : Bool) → resume limits m calls k (leave j vs (cond b (exec limits m calls second t []) (exec limits m calls first t [])) (exec limits m calls rest)) ≡ whole → Fine whole (cond b (On (place + 1 + size first + 1) t (vs ++ under k)) (On (place + 1) t (vs ++ under k)))
        sides t true h = record {
          code = second;
          around = InBlock after after j vs rest k;
          own = [];
          means = h;
          held = refl;
          laid = subst (λ i. Laid m steps locals room keep (place + 1 + size first + 1) (label after (base k + i) j ∷ labels k) (base k + i) j 0 second) same laid.5;
          kept = (inl refl, subst (λ i. Laid m steps locals room keep after (labels k) (base k) (results k) (i + j) rest) same laid.6, omega arith, kept);
          ends = refl;
        }
        sides t false h = record {
          code = first;
          around = InBlock (place + 1 + size first) after j vs rest k;
          own = [];
          means = h;
          held = refl;
          laid = subst (λ i. Laid m steps locals room keep (place + 1) (label after (base k + i) j ∷ labels k) (base k + i) j 0 first) same laid.3;
          kept = (inr (omega arith, laid.4), subst (λ i. Laid m steps locals room keep after (labels k) (base k) (results k) (i + j) rest) same laid.6, omega arith, kept);
          ends = refl;
        }

    branch_if : (l : ℕ) (rest : Code) (k : Around) (whole : Final World) (place : ℕ) (s : State World) (own : List ℕ) → Going (BrIf l rest) k whole place s own
    branch_if l rest k whole place s [] means laid kept ends = let h : 0 ≡ suc laid.2 = laid.3 in absurd (omega arith)
    branch_if l rest k whole place s (v ∷ vs) means laid kept ends =
        at_step whole (step.BrIf laid.0) place s _ laid.1 (takes_one whole k s.left s _ _ means (λ t. sides t (nat_eq (low I32 v) 0)))
      where
        same : laid.2 ≡ length vs
        same = let h : suc (length vs) ≡ suc laid.2 = laid.3 in omega arith

        sides : (t : State World) (b : Bool) → resume limits m calls k (cond b (exec limits m calls rest t vs) (Branches l t vs)) ≡ whole → Fine whole (cond b (On (place + 1) t (vs ++ under k)) (go laid.0 t (vs ++ under k)))
        sides t true h = record {
          code = rest;
          around = k;
          own = vs;
          means = h;
          held = refl;
          laid = subst (λ i. Laid m steps locals room keep (place + 1) (labels k) (base k) (results k) i rest) same laid.5;
          kept = kept;
          ends = omega arith;
        }
        sides t false h =
            let b : IsBranch m steps locals room keep (labels k) (length vs) l laid.0 = subst (λ i. IsBranch m steps locals room keep (labels k) i l laid.0) same laid.4 in
            subst (λ w. Fine w (go laid.0 t (vs ++ under k))) h (goes k l laid.0 t vs kept b.named b.held)

    branch_table : (ls : List ℕ) (last : ℕ) (rest : Code) (k : Around) (whole : Final World) (place : ℕ) (s : State World) (own : List ℕ) → Going (BrTable ls last rest) k whole place s own
    branch_table ls last rest k whole place s [] means laid kept ends = let h : 0 ≡ suc laid.1 = laid.2 in absurd (omega arith)
    branch_table ls last rest k whole place s (v ∷ vs) means laid kept ends =
        at_step whole (step.BrTable (length ls)) place s _ laid.0 (takes_one whole k s.left s _ _ means (λ t e. side t (subst (λ l. resume limits m calls k (Branches l t vs) ≡ whole) (label_min ls last (low I32 v)) e)))
      where
        i : ℕ
        i = min (low I32 v) (length ls)

        same : laid.1 ≡ length vs
        same = let h : suc (length vs) ≡ suc laid.1 = laid.2 in omega arith

        side : (t : State World) → resume limits m calls k (Branches (label_at ls last i) t vs) ≡ whole → Fine whole (go_to (entry_label (slice_get steps (place + 1 + i))) t (vs ++ under k))
        side t e =
            let at = laid.3 i (min-le_right (low I32 v) (length ls)) in
            let b : IsBranch m steps locals room keep (labels k) (length vs) (label_at ls last i) at.0 = subst (λ h. IsBranch m steps locals room keep (labels k) h (label_at ls last i) at.0) same at.2 in
            let good : Fine whole (go at.0 t (vs ++ under k)) = subst (λ w. Fine w (go at.0 t (vs ++ under k))) e (goes k (label_at ls last i) at.0 t vs kept b.named b.held) in
            subst (λ o. Fine whole (go_to (entry_label o) t (vs ++ under k))) (sym at.1) good

    direct : (f : ℕ) (rest : Code) (k : Around) (whole : Final World) (place : ℕ) (s : State World) (own : List ℕ) → Going (Call f rest) k whole place s own
    direct f rest k whole place s own means laid kept ends =
        at_step whole (step.Call f) place s _ laid.0 (takes_one whole k s.left s _ _ means (λ t e. record {
          type = laid.1;
          of_type = laid.2;
          after = record {
            code = rest;
            around = k;
            own = own;
            enough = laid.3;
            few = let h = laid.4 in omega (arith, length-append own (under k), base_is k);
            fits = laid.5;
            held = refl;
            laid = laid.6;
            kept = kept;
            ends = omega arith;
          };
          means = e;
        }))

    seek : (x : ℕ) (rest : Code) (k : Around) (whole : Final World) (place : ℕ) (s : State World) (own : List ℕ) → Going (CallIndirect x rest) k whole place s own
    seek x rest k whole place s [] means laid kept ends = let h : 1 + length laid.1.params ≤ 0 = laid.3 in absurd (omega arith)
    seek x rest k whole place s (v ∷ vs) means laid kept ends =
        at_step whole (step.CallIndirect x) place s _ laid.0 (takes_one whole k s.left s _ _ means (λ t e. record {
          type = laid.1;
          of_type = laid.2;
          after = record {
            code = rest;
            around = k;
            own = vs;
            enough = let h = laid.3 in omega arith;
            few = let h = laid.4 in omega (arith, length-append vs (under k), base_is k);
            fits = subst (λ i. base k + (i - length laid.1.params + length laid.1.results) ≤ room) one laid.5;
            held = refl;
            laid = subst (λ i. Laid m steps locals room keep (place + 1) (labels k) (base k) (results k) (i - length laid.1.params + length laid.1.results) rest) one laid.6;
            kept = kept;
            ends = omega arith;
          };
          means = e;
        }))
      where
        one : suc (length vs) - 1 ≡ length vs
        one = omega arith

    pub follows : (c : Code) (k : Around) (whole : Final World) (place : ℕ) (s : State World) (own : List ℕ) → Going c k whole place s own
    follows Stop (Body end out) whole place s own means laid kept ends =
        let here : end ≡ place = omega arith in
        let flat : own ++ [] ≡ take out own = append-nil own ∙ sym (take_all out own (let h : length own ≡ out = laid in omega arith)) in
        at_step whole step.Finish place s _ (subst (λ i. slice_get steps i ≡ Some step.Finish) here kept.0) (ap (λ vs. Done s.left s.store vs) flat ∙ means, ap length (append-nil own) ∙ laid ∙ kept.1)
    follows Stop (InBlock stop to out below rest k) whole place s own means laid kept ends =
        let here : stop ≡ place = omega arith in
        let len : length below + out ≡ length (own ++ below) = let h : length own ≡ out = laid in omega (arith, length-append own below) in
        let laid_rest = subst (λ i. Laid m steps locals room keep to (labels k) (base k) (results k) i rest) len kept.1 in
        let shape : (own ++ below) ++ under k ≡ own ++ (below ++ under k) = append_assoc own below (under k) in
        elim kept.0 [
          | inl same ↦
              let at : to ≡ place = omega arith in
              subst (λ o. Fine whole (move limits m steps place s o)) shape (follows rest k whole place s (own ++ below) means (subst (λ i. Laid m steps locals room keep i (labels k) (base k) (results k) (length (own ++ below)) rest) at laid_rest) kept.3 (subst (λ i. i + size rest ≡ end_of k) at kept.2))
          | inr jump ↦
              at_step whole (step.Jump to) place s _ (subst (λ i. slice_get steps i ≡ Some (step.Jump to)) here jump.1) (record {
                code = rest;
                around = k;
                own = own ++ below;
                means = means;
                held = sym shape;
                laid = laid_rest;
                kept = kept.3;
                ends = kept.2;
              })
        ]
    follows Stop (InLoop from to kind body below rest k) whole place s own means laid kept ends =
        let at : to ≡ place = omega arith in
        let len : length below + length (results_of kind) ≡ length (own ++ below) = let h : length own ≡ length (results_of kind) = laid in omega (arith, length-append own below) in
        let e : from + 1 + size body ≡ place = sym kept.0 ∙ at in
        let laid_rest = subst (λ i. Laid m steps locals room keep i (labels k) (base k) (results k) (length below + length (results_of kind)) rest) e kept.1.2 in
        let shape : (own ++ below) ++ under k ≡ own ++ (below ++ under k) = append_assoc own below (under k) in
        subst (λ o. Fine whole (move limits m steps place s o)) shape (follows rest k whole place s (own ++ below) means (subst (λ i. Laid m steps locals room keep place (labels k) (base k) (results k) i rest) len laid_rest) kept.3 (subst (λ i. i + size rest ≡ end_of k) at kept.2))
    follows (Then p rest) k whole place s own means laid kept ends =
        let good : Fine whole (does limits m steps p place s (own ++ under k)) =
        takes_one whole k s.left s _ (λ t. onward (place + 1) t (act limits m p t (own ++ under k))) means (λ t e. let local = is_local limits m p t in subst (λ d. Fine whole (onward (place + 1) t d)) (sym (local.below own (under k) laid.2)) (plain_goes k rest own (taken p) (given p) (length own - taken p + given p) whole place t (act limits m p t own) (local.count own laid.2) e (let h = laid.2 in omega arith) laid.4 kept (omega arith))) in
        at_step whole (laid_step p) place s _ laid.0 (subst (λ n. Fine whole n) (sym (laid_moves p place s (own ++ under k))) good)
    follows (Unreachable rest) k whole place s own means laid kept ends =
        at_step whole step.Unreachable place s _ laid (takes_one whole k s.left s _ _ means (λ t e. (sym (traps_out k trap.Unreachable t.store) ∙ e, tt)))
    follows (Block kind body rest) k whole place s own means laid kept ends = block kind body rest k whole place s own means laid kept ends
    follows (Loop kind body rest) k whole place s own means laid kept ends = loops_at kind body rest k whole place s.left s.store s.locals own means laid kept ends
    follows (If kind first rest) k whole place s own means laid kept ends = option kind first rest k whole place s own means laid kept ends
    follows (IfElse kind first second rest) k whole place s own means laid kept ends = choice kind first second rest k whole place s own means laid kept ends
    follows (Br l rest) k whole place s own means laid kept ends =
        at_step whole (step.Br laid.0) place s _ laid.1 (takes_one whole k s.left s _ _ means (λ t e. subst (λ w. Fine w (go laid.0 t (own ++ under k))) e (goes k l laid.0 t own kept laid.2.named laid.2.held)))
    follows (BrIf l rest) k whole place s own means laid kept ends = branch_if l rest k whole place s own means laid kept ends
    follows (BrTable ls last rest) k whole place s own means laid kept ends = branch_table ls last rest k whole place s own means laid kept ends
    follows (Return rest) k whole place s own means laid kept ends =
        at_step whole (step.Return keep) place s _ laid.0 (takes_one whole k s.left s _ _ means (λ t e. (ap (λ vs. Done t.left t.store vs) (take-append-le keep own (under k) laid.1) ∙ sym (returns_out k keep t own steps locals room kept) ∙ e, let h = laid.1 in omega (arith, length-take keep (own ++ under k), length-append own (under k)))))
    follows (Call f rest) k whole place s own means laid kept ends = direct f rest k whole place s own means laid kept ends
    follows (CallIndirect x rest) k whole place s own means laid kept ends = seek x rest k whole place s own means laid kept ends

    -- one move keeps what the state stands for, or ends as the execution does
    pub next_stands : (whole : Final World) (place : ℕ) (s : State World) (vs : List ℕ) → Stands limits m calls steps locals room keep whole place s vs → Fine whole (move limits m steps place s vs)
    next_stands whole place s vs h =
        subst (λ o. Fine whole (move limits m steps place s o)) (sym h.held) (follows h.code h.around whole place s h.own h.means h.laid h.kept h.ends)

    -- the height of a label that can be reached
    pub height_under : (k : Around) (l : ℕ) (x : Label) (s : State World) (vs : List ℕ) → LaidAround m steps locals room keep k → slice_get (labels k) l ≡ Some x → x.keep ≤ length vs → x.height + x.keep ≤ length (vs ++ under k)
    height_under k l x s vs kept at enough =
        let a = arrives k l x s vs kept at enough in
        omega (arith, length-append vs (under k), ap length a.split, length-append a.pre a.tail, a.height)
