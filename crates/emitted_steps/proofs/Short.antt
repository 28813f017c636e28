-- Where steps run out.
use Rattle.std.proofs.Common.{◌≡◌, ◌⊎◌, inl, inr, ℕ, ◌+◌, ◌-◌, ◌<◌, ◌≤◌, List, [], ◌∷◌, ◌++◌, Bool, true, false, nat_lt, refl, sym, ap, ◌∙◌, arith}
use Rattle.std.proofs.lemmas.List.{append_assoc, append-nil}
use Rattle.mo_values.specs.Shapes.{Bytes}
use Rattle.wasm_tree.specs.declared.trap.Trap.{Trap}
use Rattle.wasm_tree.specs.declared.trap.Trap.TheVariants as trap
use Rattle.wasm_tree.specs.Exec.{Host, Store}
use Rattle.low_ir.specs.Tree.{Code, Stop, Module}
use Rattle.low_ir.specs.Meaning.{Called, Calls, Outcome, Ends, Jumps, Gives, Breaks, Astray, run}
use Rattle.low_ir.specs.Frames.{finish, enter}
use Rattle.low_rules.specs.Rule.{At, state}
use Rattle.low_rules.proofs.Steps.{lt_true, lt_false}
use Rattle.code_sequences.specs.Laws.{Goes, Falls}
use Rattle.code_sequences.specs.Sequences.{seq, then_run}
use Rattle.code_sequences.specs.Places.{Place, whole, closes}
use Rattle.code_sequences.proofs.Seq.{run_seq}
use Rattle.emitted_steps.specs.Operations.{told_all}
use Rattle.emitted_steps.specs.Shortage.{ShowsMore, RunsOut, IsShort, IsWanting, StepsRunOut}
use Rattle.emitted_steps.proofs.Control.{calls, resume_breaks, whole_fell}

pub either : {A B C : Type 0} → A ⊎ B → (A → C) → (B → C) → C
either (inl a) f g = f a
either (inr b) f g = g b

-- steps lack
pub or_short : {A S T : Type 0} → A ⊎ S → A ⊎ (S ⊎ T)
or_short (inl a) = inl a
or_short (inr s) = inr (inl s)

module _ {W : Type 0} (prints_of : W → List Bytes) where
  -- ---- what was printed

  pub shows_same : (w : W) → ShowsMore prints_of w w
  shows_same w = record { more = []; is = sym (append-nil (prints_of w)) }

  pub shows_on : (a b c : W) → ShowsMore prints_of a b → ShowsMore prints_of b c → ShowsMore prints_of a c
  shows_on a b c p q = record { more = p.more ++ q.more; is = q.is ∙ ap (λ l. l ++ q.more) p.is ∙ append_assoc (prints_of a) p.more q.more }

  -- ---- the rest of an execution

  pub short_on : (before : Called W) (left bound bound' : ℕ) (w w' : W) → bound ≤ bound' → ShowsMore prints_of w w' → IsShort prints_of before left bound w → IsShort prints_of before left bound' w'
  short_on before left bound bound' w w' le p s = record { store = s.store; same = s.same; few = let f = s.few in omega (arith, f, le); part = shows_on s.store.world w w' s.part p }

  -- of what it is the same as
  pub short_as : (before before' : Called W) (left bound : ℕ) (w : W) → before ≡ before' → IsShort prints_of before' left bound w → IsShort prints_of before left bound w
  short_as before before' left bound w e s = record { store = s.store; same = e ∙ s.same; few = s.few; part = s.part }

  pub closed_short : (pages : ℕ) (m : Module) (host : Host W) (c : Place W) (before : Called W) (o : Outcome W) (left bound : ℕ) (w : W) → before ≡ closes pages m host c o → left < bound → RunsOut prints_of o w → IsShort prints_of before left bound w
  closed_short pages m host c before o left bound w e lt out = record {
    store = out.store;
    same = e ∙ ap (closes pages m host c) out.is
        ∙ ap (λ o. whole pages m host c.callers (finish c.type o)) (resume_breaks pages m host (calls pages m host c) c.around trap.Steps out.store)
        ∙ whole_fell pages m host c.callers trap.Steps out.store;
    few = lt;
    part = out.part;
  }

  pub wanting_on : (before : Called W) (roof needed needed' : ℕ) (w w' : W) → needed ≤ needed' → ShowsMore prints_of w w' → IsWanting prints_of before roof needed w → IsWanting prints_of before roof needed' w'
  wanting_on before roof needed needed' w w' le p s =
      record { store = s.store; same = s.same; refused = s.refused; lacks = let l = s.lacks in omega (arith, l, le); part = shows_on s.store.world w w' s.part p }

  -- where it has broken off at once
  pub out_now : (o : Outcome W) (store : Store W) → o ≡ Breaks trap.Steps store → RunsOut prints_of o store.world
  out_now o store e = record { store = store; is = e; part = shows_same store.world }

-- ---- code before other code

then_stop : {W : Type 0} (pages : ℕ) (m : Module) (calls : Calls W) (o : Outcome W) → then_run o (run pages m calls Stop) ≡ o
then_stop pages m calls (Ends s) = refl
then_stop pages m calls (Jumps label s) = refl
then_stop pages m calls (Gives s value) = refl
then_stop pages m calls (Breaks cause store) = refl
then_stop pages m calls Astray = refl

module _ {W : Type 0} (pages : ℕ) (m : Module) (host : Host W) (told fell : W → Bytes → W) (prints_of : W → List Bytes) (out : StepsRunOut pages m host told fell prints_of) where
  pub shows_told : (w : W) (texts : List Bytes) → ShowsMore prints_of w (told_all told w texts)
  shows_told w [] = shows_same prints_of w
  shows_told w (t ∷ texts) = shows_on prints_of w (told w t) (told_all told (told w t) texts) (record { more = t ∷ []; is = out.tells w t }) (shows_told (told w t) texts)

  module _ (deep room : ℕ) (code more : Code) (h : At W) where
    abbrev inner : Calls W
    inner = enter deep pages m host room

    before_more : (left : ℕ) (w : W) → RunsOut prints_of (run pages m inner code (state left h)) w → RunsOut prints_of (run pages m inner (seq code more) (state left h)) w
    before_more left w o = record { store = o.store; is = sym (run_seq pages m inner more code (state left h)) ∙ ap (λ x. then_run x (run pages m inner more)) o.is; part = o.part }

    -- there are steps for it, or they run out
    pub goes_or : (P : At W → Type 0) (go : Goes pages m inner code P h) (left : ℕ) → ((n : ℕ) × (left ≡ go.cost + n)) ⊎ ((left < go.cost) × RunsOut prints_of (run pages m inner (seq code more) (state left h)) go.to.store.world)
    goes_or P go left = by (nat_lt left go.cost) refl
      where
        by : (t : Bool) → nat_lt left go.cost ≡ t → ((n : ℕ) × (left ≡ go.cost + n)) ⊎ ((left < go.cost) × RunsOut prints_of (run pages m inner (seq code more) (state left h)) go.to.store.world)
        by true e =
            let lt : left < go.cost = lt_true left go.cost e in
            inr (
              lt,
              before_more left go.to.store.world
                  (out.ends deep room code left go.cost h go.to lt (sym (then_stop pages m inner (run pages m inner code (state go.cost h))) ∙ run_seq pages m inner Stop code (state go.cost h) ∙ go.by Stop go.cost 0 (omega arith))),
            )
        by false e = let le : go.cost ≤ left = lt_false left go.cost e in inl (left - go.cost, omega (arith, le))

    pub falls_or : (Q : Trap → ℕ → Store W → Type 0) (x : Falls pages m inner code Q h) (left : ℕ)
        → (run pages m inner (seq code more) (state left h) ≡ Breaks x.cause x.store) ⊎ ((left < x.cost) × RunsOut prints_of (run pages m inner (seq code more) (state left h)) x.store.world)
    falls_or Q x left = by (nat_lt left x.cost) refl
      where
        by : (t : Bool) → nat_lt left x.cost ≡ t → (run pages m inner (seq code more) (state left h) ≡ Breaks x.cause x.store) ⊎ ((left < x.cost) × RunsOut prints_of (run pages m inner (seq code more) (state left h)) x.store.world)
        by false e = let le : x.cost ≤ left = lt_false left x.cost e in inl (x.by more left (left - x.cost) (omega (arith, le)))
        by true e =
            let lt : left < x.cost = lt_true left x.cost e in
            ends lt (out.falls deep room code left x.cost h x.cause x.store lt (sym (then_stop pages m inner (run pages m inner code (state x.cost h))) ∙ run_seq pages m inner Stop code (state x.cost h) ∙ x.by Stop x.cost 0 (omega arith)))
          where
            ends : left < x.cost → (run pages m inner code (state left h) ≡ Breaks x.cause x.store) ⊎ RunsOut prints_of (run pages m inner code (state left h)) x.store.world
                → (run pages m inner (seq code more) (state left h) ≡ Breaks x.cause x.store) ⊎ ((left < x.cost) × RunsOut prints_of (run pages m inner (seq code more) (state left h)) x.store.world)
            ends lt (inl same) = inl (sym (run_seq pages m inner more code (state left h)) ∙ ap (λ o. then_run o (run pages m inner more)) same)
            ends lt (inr o) = inr (lt, before_more left x.store.world o)
