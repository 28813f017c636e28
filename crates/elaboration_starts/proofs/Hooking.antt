-- The body of a hook above two stacks: what stands below is not looked at before it is left.
use Rattle.std.proofs.Common.{◌≡◌, ◌⊎◌, inl, inr, ℕ, zero, suc, ◌+◌, ◌*◌, ◌≤◌, List, [], ◌∷◌, ◌++◌, None, refl, sym, ap, ◌∙◌, subst, arith}
use Rattle.std.specs.Prelude.{max}
use Rattle.mo_types.specs.Graph.{head_at}
use Rattle.mo_values.specs.Shapes.{Bytes}
use Rattle.mo_meaning.specs.Configurations.{Surroundings}
use Rattle.mo_meaning.specs.Kernel.{Outgoing}
use Rattle.mo_machine.specs.Values.{Value}
use Rattle.mo_machine.specs.Acts.{Store, Act, Stuck, goes}
use Rattle.mo_machine.specs.Configurations.{Configuration, Run, Still, Ended, End, live_on, live_state}
use Rattle.mo_machine.specs.Configurations as configuration
use Rattle.mo_machine.specs.Frames.{Stack, Focus, Eval, Ready, Give}
use Rattle.mo_machine.specs.Jumps.{leave}
use Rattle.mo_machine.specs.Moves.{Move}
use Rattle.mo_machine.specs.Reductions.{reduces}
use Rattle.mo_machine.specs.Turns.{turn, after, step, steps, then_steps}
use Rattle.elaboration_starts.specs.Staying.{Inward, StaysAt}
use Rattle.elaboration_starts.proofs.Closing.{IsPlain}
use Rattle.elaboration_starts.proofs.Alongside.{conf, Halts}
use Rattle.elaboration_starts.proofs.Twins.{TwinMove, TwinAct, BothMove, BothReduce, BothGo, BothPrint, BothTrap, BothStuck, Outward, move_twins, reduce_twins}

-- The frames on top of both are left with a value, or by a jump to them; no other jump leaves the first.
module _ (s : Surroundings) (one two k1 k2 : Stack) (leaves_one : (store : Store) (v : Value) → leave store 0 v one ≡ goes store (Give v) k1) (leaves_two : (store : Store) (v : Value) → leave store 0 v two ≡ goes store (Give v) k2)
    (stays_one : (store : Store) (l : ℕ) (v : Value) → leave store (suc l) v one ≡ Stuck)
    (gives_one : (w d : ℕ) (prints : List Bytes) (calls : List Outgoing) (store : Store) (v : Value) → step s (conf w d prints calls store (Give v) one) ≡ Still (conf (w + 1) (max (max d (live_state (Give v) one + 16 * 0)) (live_state (Give v) k1)) prints calls store (Give v) k1))
    (gives_two : (w d : ℕ) (prints : List Bytes) (calls : List Outgoing) (store : Store) (v : Value) → step s (conf w d prints calls store (Give v) two) ≡ Still (conf (w + 1) (max (max d (live_state (Give v) two + 16 * 0)) (live_state (Give v) k2)) prints calls store (Give v) k2))
    (low : live_on two ≤ live_on one) where
  -- the body is left; any other jump leaves nothing
  pub data Beyond : Act → Act → Type 0 where
    ByLeaving : (store : Store) (v : Value) → Beyond (goes store (Give v) k1) (goes store (Give v) k2)
    Wrongly : (b : Act) → Beyond Stuck b

  out : (store : Store) (l : ℕ) (v : Value) → Inward one → Beyond (leave store l v one) (leave store l v two)
  out store zero v h = subst (λ a. Beyond a (leave store 0 v two)) (sym (leaves_one store v)) (subst (λ b. Beyond (goes store (Give v) k1) b) (sym (leaves_two store v)) (ByLeaving store v))
  out store (suc l) v h = subst (λ a. Beyond a (leave store (suc l) v two)) (sym (stays_one store l v)) (Wrongly (leave store (suc l) v two))

  above_live : (s0 : Stack) → live_on (s0 ++ two) ≤ live_on (s0 ++ one)
  above_live [] = low
  above_live (f ∷ s0) = let z : live_on (s0 ++ two) ≤ live_on (s0 ++ one) = above_live s0 in omega (arith, z)

  -- the first has paid so much more, and the second at least so much
  module _ (extra least floor : ℕ) where
    pub data Pair : Run → Run → Type 0 where
      Both : (x w d d' : ℕ) (prints : List Bytes) (calls : List Outgoing) (store : Store) (f : Focus) (s0 : Stack) → x ≡ extra + w → max floor d' ≤ d → least ≤ w → live_on k1 ≤ d → live_on k2 ≤ d → Pair (Still (conf x d prints calls store f (s0 ++ one))) (Still (conf w d' prints calls store f (s0 ++ two)))
      Over : (x w d d' : ℕ) (prints : List Bytes) (calls : List Outgoing) (store : Store) (f : Focus) (s0 : Stack) (end : End) → Halts end → x ≡ extra + w → max floor d' ≤ d → Pair (Ended (conf x d prints calls store f (s0 ++ one)) end) (Ended (conf w d' prints calls store f (s0 ++ two)) end)

    pub data Past : Run → Run → Type 0 where
      Left : (x w d d' : ℕ) (prints : List Bytes) (calls : List Outgoing) (store : Store) (v : Value) → x ≡ extra + w → max floor d' ≤ d → least ≤ w → live_on k1 ≤ d → live_on k2 ≤ d → Past (Still (conf x d prints calls store (Give v) k1)) (Still (conf w d' prints calls store (Give v) k2))

    -- a step
    data Stepped : Run → Run → Type 0 where
      Goes-on : (r r' : Run) → Pair r r' → Stepped r r'
      Leaves-it : (r r' : Run) → Past r r' → Stepped r r'
      IsWrong : (c : Configuration) (r' : Run) → Stepped (Ended c configuration.Breaks) r'

    acts : (x w d0 d1 : ℕ) (prints : List Bytes) (calls : List Outgoing) (store : Store) (f : Focus) (s0 : Stack) → x ≡ extra + w → max floor d1 ≤ d0 → least ≤ w → live_on k1 ≤ d0 → live_on k2 ≤ d0 → (a a' : Act) → TwinAct one two Beyond out a a'
        → Stepped (turn s (conf x d0 prints calls store f (s0 ++ one)) a) (turn s (conf w d1 prints calls store f (s0 ++ two)) a')
    acts x w d0 d1 prints calls store f s0 pays le fw n h a a' (BothGo cost later g s1) =
        let y : live_on (s0 ++ two) ≤ live_on (s0 ++ one) = above_live s0 in
        let z : live_on (s1 ++ two) ≤ live_on (s1 ++ one) = above_live s1 in
        Goes-on _ _ (Both (x + cost.weight) (w + cost.weight) (max (max d0 (live_state f (s0 ++ one) + 16 * cost.levels)) (live_state g (s1 ++ one))) (max (max d1 (live_state f (s0 ++ two) + 16 * cost.levels)) (live_state g (s1 ++ two))) prints calls later g s1 (omega (arith, pays)) (omega (arith, y, z, le)) (omega (arith, fw)) (omega (arith, n)) (omega (arith, h)))
    acts x w d0 d1 prints calls store f s0 pays le fw n h a a' (BothPrint cost text g s1) =
        let y : live_on (s0 ++ two) ≤ live_on (s0 ++ one) = above_live s0 in
        let z : live_on (s1 ++ two) ≤ live_on (s1 ++ one) = above_live s1 in
        Goes-on _ _ (Both (x + cost.weight) (w + cost.weight) (max (max d0 (live_state f (s0 ++ one) + 16 * cost.levels)) (live_state g (s1 ++ one))) (max (max d1 (live_state f (s0 ++ two) + 16 * cost.levels)) (live_state g (s1 ++ two))) (prints ++ text ∷ []) calls store g s1 (omega (arith, pays)) (omega (arith, y, z, le)) (omega (arith, fw)) (omega (arith, n)) (omega (arith, h)))
    acts x w d0 d1 prints calls store f s0 pays le fw n h a a' (BothTrap cost text) =
        let y : live_on (s0 ++ two) ≤ live_on (s0 ++ one) = above_live s0 in
        Goes-on _ _ (Over (x + cost.weight) (w + cost.weight) (max d0 (live_state f (s0 ++ one) + 16 * cost.levels)) (max d1 (live_state f (s0 ++ two) + 16 * cost.levels)) prints calls store f s0 (configuration.Traps text) tt (omega (arith, pays)) (omega (arith, y, le)))
    acts x w d0 d1 prints calls store f s0 pays le fw n h a a' BothStuck = Goes-on _ _ (Over x w d0 d1 prints calls store f s0 configuration.Breaks tt pays le)
    acts x w d0 d1 prints calls store f s0 pays le fw n h a a' (Outward b b' (ByLeaving later v)) =
        let y : live_on (s0 ++ two) ≤ live_on (s0 ++ one) = above_live s0 in
        Leaves-it _ _ (Left (x + 1) (w + 1) (max (max d0 (live_state f (s0 ++ one) + 16 * 0)) (live_state (Give v) k1)) (max (max d1 (live_state f (s0 ++ two) + 16 * 0)) (live_state (Give v) k2)) prints calls later v (omega (arith, pays)) (omega (arith, y, le, n, h)) (omega (arith, fw)) (omega (arith, n)) (omega (arith, h)))
    acts x w d0 d1 prints calls store f s0 pays le fw n h a a' (Outward b b' (Wrongly r)) = IsWrong (conf x d0 prints calls store f (s0 ++ one)) _

    moves : (x w d0 d1 : ℕ) (prints : List Bytes) (calls : List Outgoing) (store : Store) (f : Focus) (s0 : Stack) → x ≡ extra + w → max floor d1 ≤ d0 → least ≤ w → live_on k1 ≤ d0 → live_on k2 ≤ d0 → (m m' : Move) → TwinMove one two Beyond out m m' → (a a' : Act) → TwinAct one two Beyond out a a'
        → Stepped (after s (conf x d0 prints calls store f (s0 ++ one)) (turn s (conf x d0 prints calls store f (s0 ++ one)) a) m) (after s (conf w d1 prints calls store f (s0 ++ two)) (turn s (conf w d1 prints calls store f (s0 ++ two)) a') m')
    moves x w d0 d1 prints calls store f s0 pays le fw n h m m' (BothMove g s1) a a' t = Goes-on _ _ (Both x w d0 d1 prints calls store g s1 pays le fw n h)
    moves x w d0 d1 prints calls store f s0 pays le fw n h m m' BothReduce a a' t = acts x w d0 d1 prints calls store f s0 pays le fw n h a a' t

    steps_both : (x w d0 d1 : ℕ) (prints : List Bytes) (calls : List Outgoing) (store : Store) (f : Focus) (s0 : Stack) → x ≡ extra + w → max floor d1 ≤ d0 → least ≤ w → live_on k1 ≤ d0 → live_on k2 ≤ d0 → StaysAt (head_at s.types) store f (s0 ++ one)
        → Stepped (step s (conf x d0 prints calls store f (s0 ++ one))) (step s (conf w d1 prints calls store f (s0 ++ two)))
    steps_both x w d0 d1 prints calls store (Give v) [] pays le fw n h stays =
        subst (λ r. Stepped r (step s (conf w d1 prints calls store (Give v) two))) (sym (gives_one x d0 prints calls store v))
        (subst (λ r. Stepped (Still (conf (x + 1) (max (max d0 (live_state (Give v) one + 16 * 0)) (live_state (Give v) k1)) prints calls store (Give v) k1)) r) (sym (gives_two w d1 prints calls store v))
        (Leaves-it _ _ (Left (x + 1) (w + 1) (max (max d0 (live_state (Give v) one + 16 * 0)) (live_state (Give v) k1)) (max (max d1 (live_state (Give v) two + 16 * 0)) (live_state (Give v) k2)) prints calls store v (omega (arith, pays)) (omega (arith, le, n, h, low)) (omega (arith, fw)) (omega (arith, n)) (omega (arith, h)))))
    steps_both x w d0 d1 prints calls store (Give v) (fr ∷ s0) pays le fw n h stays =
        moves x w d0 d1 prints calls store (Give v) (fr ∷ s0) pays le fw n h _ _ (move_twins one two Beyond out (Give v) (fr ∷ s0) tt) _ _ (reduce_twins one two Beyond out (head_at s.types) store (Give v) (fr ∷ s0) tt stays)
    steps_both x w d0 d1 prints calls store (Eval e env') s0 pays le fw n h stays =
        moves x w d0 d1 prints calls store (Eval e env') s0 pays le fw n h _ _ (move_twins one two Beyond out (Eval e env') s0 tt) _ _ (reduce_twins one two Beyond out (head_at s.types) store (Eval e env') s0 tt stays)
    steps_both x w d0 d1 prints calls store (Ready a vs) s0 pays le fw n h stays =
        moves x w d0 d1 prints calls store (Ready a vs) s0 pays le fw n h _ _ (move_twins one two Beyond out (Ready a vs) s0 tt) _ _ (reduce_twins one two Beyond out (head_at s.types) store (Ready a vs) s0 tt stays)

    -- ---- any number of steps

    pub record PastAt (j : ℕ) (c c' : Configuration) : Type 0 where
      pub so_far : ℕ
      pub rest_of : ℕ
      pub is : j ≡ so_far + rest_of
      pub past : Past (steps s so_far c) (steps s so_far c')

    abbrev Stays : Configuration → Type 0
    Stays c = (i : ℕ) (c1 : Configuration) → steps s i c ≡ Still c1 → StaysAt (head_at s.types) c1.store c1.focus c1.stack

    abbrev Whole : Configuration → Type 0
    Whole c = (i : ℕ) (c1 : Configuration) → steps s i c ≡ Ended c1 configuration.Breaks → ⊥

    abbrev Locked : ℕ → Configuration → Configuration → Type 0
    Locked j c c' = Pair (steps s j c) (steps s j c') ⊎ PastAt j c c'

    abbrev For : ℕ → Type 0
    For j = (x w d d' : ℕ) (prints : List Bytes) (calls : List Outgoing) (store : Store) (f : Focus) (s0 : Stack) → x ≡ extra + w → max floor d' ≤ d → least ≤ w → live_on k1 ≤ d → live_on k2 ≤ d → Stays (conf x d prints calls store f (s0 ++ one)) → Whole (conf x d prints calls store f (s0 ++ one))
        → Locked j (conf x d prints calls store f (s0 ++ one)) (conf w d' prints calls store f (s0 ++ two))

    further : (j : ℕ) → For j → (c c' : Configuration) → Stays c → Whole c → (r r' : Run) → step s c ≡ r → step s c' ≡ r' → Stepped r r' → Locked (suc j) c c'
    further j go c c' stays whole r r' e e' (Goes-on r0 r1 (Both x w d0 d1 prints calls store f s0 pays le fw n h)) =
        by (go x w d0 d1 prints calls store f s0 pays le fw n h (λ i c1 q. stays (suc i) c1 (ap (then_steps s (steps s i)) e ∙ q)) (λ i c1 q. whole (suc i) c1 (ap (then_steps s (steps s i)) e ∙ q)))
      where
        by : Locked j (conf x d0 prints calls store f (s0 ++ one)) (conf w d1 prints calls store f (s0 ++ two)) → Locked (suc j) c c'
        by (inl p) = inl (subst (λ x. Pair (then_steps s (steps s j) x) (then_steps s (steps s j) (step s c'))) (sym e) (subst (λ y. Pair (steps s j (conf x d0 prints calls store f (s0 ++ one))) (then_steps s (steps s j) y)) (sym e') p))
        by (inr p) = inr (record {
          so_far = suc p.so_far;
          rest_of = p.rest_of;
          is = let z : j ≡ p.so_far + p.rest_of = p.is in omega (arith, z);
          past = subst (λ x. Past (then_steps s (steps s p.so_far) x) (then_steps s (steps s p.so_far) (step s c'))) (sym e) (subst (λ y. Past (steps s p.so_far (conf x d0 prints calls store f (s0 ++ one))) (then_steps s (steps s p.so_far) y)) (sym e') p.past);
        })
    further j go c c' stays whole r r' e e' (Goes-on r0 r1 (Over x w d0 d1 prints calls store f s0 end halts pays le)) =
        inl (subst (λ x. Pair (then_steps s (steps s j) x) (then_steps s (steps s j) (step s c'))) (sym e)
        (subst (λ y. Pair (Ended (conf x d0 prints calls store f (s0 ++ one)) end) (then_steps s (steps s j) y)) (sym e') (Over x w d0 d1 prints calls store f s0 end halts pays le)))
    further j go c c' stays whole r r' e e' (Leaves-it r0 r1 past) = inr (record {
      so_far = 1;
      rest_of = j;
      is = omega arith;
      past = subst (λ x. Past (then_steps s (steps s 0) x) (then_steps s (steps s 0) (step s c'))) (sym e) (subst (λ y. Past (then_steps s (steps s 0) r) (then_steps s (steps s 0) y)) (sym e') (as_it_is r r' past));
    })
      where
        as_it_is : (r r' : Run) → Past r r' → Past (then_steps s (steps s 0) r) (then_steps s (steps s 0) r')
        as_it_is r r' (Left x w d d' prints calls store v pays le fw n h) = Left x w d d' prints calls store v pays le fw n h
    further j go c c' stays whole r r' e e' (IsWrong c2 r1) = absurd (whole 1 c2 (ap (then_steps s (steps s 0)) e))

    from : (j : ℕ) → For j → For (suc j)
    from j go x w d0 d1 prints calls store f s0 pays le fw n h stays whole =
        further j go (conf x d0 prints calls store f (s0 ++ one)) (conf w d1 prints calls store f (s0 ++ two)) stays whole _ _ refl refl (steps_both x w d0 d1 prints calls store f s0 pays le fw n h (stays 0 (conf x d0 prints calls store f (s0 ++ one)) refl))

    pub locked : (j : ℕ) → For j
    locked zero x w d0 d1 prints calls store f s0 pays le fw n h stays whole = inl (Both x w d0 d1 prints calls store f s0 pays le fw n h)
    locked (suc j) x w d0 d1 prints calls store f s0 pays le fw n h stays whole = from j (locked j) x w d0 d1 prints calls store f s0 pays le fw n h stays whole

  -- ---- nothing is thrown, called or awaited beside

  twins_plain : (cx cw c2 : Configuration) (text : Bytes) (m m' : Move) → TwinMove one two Beyond out m m' → (a a' : Act) → TwinAct one two Beyond out a a' → ((c : Configuration) → after s cx (turn s cx a) m ≡ Ended c configuration.Breaks → ⊥) → after s cw (turn s cw a') m' ≡ Ended c2 (configuration.Traps text) → IsPlain a'
  twins_plain cx cw c2 text m m' (BothMove g s1) a a' t whole e = absurd (let z : Still (configuration.standing g (s1 ++ two) cw) ≡ Ended c2 (configuration.Traps text) = e in cc)
  twins_plain cx cw c2 text m m' BothReduce a a' (BothGo cost store f k) whole e = tt
  twins_plain cx cw c2 text m m' BothReduce a a' (BothPrint cost said f k) whole e = tt
  twins_plain cx cw c2 text m m' BothReduce a a' (BothTrap cost said) whole e = tt
  twins_plain cx cw c2 text m m' BothReduce a a' BothStuck whole e = tt
  twins_plain cx cw c2 text m m' BothReduce a a' (Outward b b' (ByLeaving store v)) whole e = tt
  twins_plain cx cw c2 text m m' BothReduce a a' (Outward b b' (Wrongly r)) whole e = absurd (whole cx refl)

  pub plain_beside : (x w d d' : ℕ) (prints : List Bytes) (calls : List Outgoing) (store : Store) (f : Focus) (s0 : Stack) → StaysAt (head_at s.types) store f (s0 ++ one) → ((c : Configuration) → step s (conf x d prints calls store f (s0 ++ one)) ≡ Ended c configuration.Breaks → ⊥)
      → (c2 : Configuration) (text : Bytes) → step s (conf w d' prints calls store f (s0 ++ two)) ≡ Ended c2 (configuration.Traps text) → IsPlain (reduces (head_at s.types) None store f (s0 ++ two))
  plain_beside x w d d' prints calls store (Give v) [] stays whole c2 text e = absurd (no_still _ c2 text (sym (gives_two w d' prints calls store v) ∙ e))
    where
      no_still : (c c2 : Configuration) (text : Bytes) → Still c ≡ Ended c2 (configuration.Traps text) → ⊥
      no_still c c2 text e = cc
  plain_beside x w d d' prints calls store (Give v) (fr ∷ s0) stays whole c2 text e =
      twins_plain (conf x d prints calls store (Give v) (fr ∷ (s0 ++ one))) (conf w d' prints calls store (Give v) (fr ∷ (s0 ++ two))) c2 text _ _ (move_twins one two Beyond out (Give v) (fr ∷ s0) tt) _ _ (reduce_twins one two Beyond out (head_at s.types) store (Give v) (fr ∷ s0) tt stays) whole e
  plain_beside x w d d' prints calls store (Eval b env) s0 stays whole c2 text e =
      twins_plain (conf x d prints calls store (Eval b env) (s0 ++ one)) (conf w d' prints calls store (Eval b env) (s0 ++ two)) c2 text _ _ (move_twins one two Beyond out (Eval b env) s0 tt) _ _ (reduce_twins one two Beyond out (head_at s.types) store (Eval b env) s0 tt stays) whole e
  plain_beside x w d d' prints calls store (Ready a vs) s0 stays whole c2 text e =
      twins_plain (conf x d prints calls store (Ready a vs) (s0 ++ one)) (conf w d' prints calls store (Ready a vs) (s0 ++ two)) c2 text _ _ (move_twins one two Beyond out (Ready a vs) s0 tt) _ _ (reduce_twins one two Beyond out (head_at s.types) store (Ready a vs) s0 tt stays) whole e
