-- What lies below the innermost activation stays, and calls and returns hand over what they should.
use Rattle.std.proofs.Common.{◌≡◌, ℕ, zero, suc, ◌+◌, ◌-◌, ◌<◌, ◌≤◌, List, [], ◌∷◌, ◌++◌, length, take, drop, get_or, refl, sym, ap, ◌∙◌, arith, add-one, length-append, length-take, length-drop, get_or-set_other, get_or-set_same}
use Rattle.std.specs.Prelude.{reverse, slice_set}
use Rattle.std.proofs.lemmas.List.{take_more, reverse-append, ext_get_or, get_or-drop, get_or-take, get_or_append_left}
use Rattle.wasm_steps.specs.Calls.{Frame}
use Rattle.wasm_machine.specs.declared.frames.Saved.{Saved}
use Rattle.wasm_machine.specs.Operands.{tops}
use Rattle.wasm_machine.specs.Stacks.{no_frame, saved_list, frame_at, frames_of, AreStacked, AgreeBelow}

pub agree_less : (s t : List ℕ) (n k : ℕ) → k ≤ n → AgreeBelow n s t → AgreeBelow k s t
agree_less s t n k le low = record { long = low.long; within = omega (arith, low.within); same = λ i h. low.same i (omega arith) }

pub agree_same : (s : List ℕ) (n : ℕ) → n ≤ length s → AgreeBelow n s s
agree_same s n le = record { long = refl; within = le; same = λ i h. refl }

pub agree_set : (s : List ℕ) (n v : ℕ) → n < length s → length (slice_set s n v) ≡ length s → AgreeBelow n (slice_set s n v) s
agree_set s n v le same = record {
  long = same;
  within = omega arith;
  same = λ i h. get_or-set_other s n i v 0 (omega arith);
}

-- a part that was written from n on
pub agree_part : (s own : List ℕ) (n : ℕ) → n ≤ length s → n + length own ≡ length s → AgreeBelow n (take n s ++ own) s
agree_part s own n le long = record {
  long = omega (arith, length-append (take n s) own, length-take n s);
  within = omega (arith, length-append (take n s) own, length-take n s);
  same = λ i h. let k : i < length (take n s) = omega (arith, length-take n s) in get_or_append_left (take n s) own 0 i k ∙ get_or-take n s i 0 h;
}

tops_same : (s t : List ℕ) (n : ℕ) → ((i : ℕ) → i < n → get_or s i 0 ≡ get_or t i 0) → tops s n ≡ tops t n
tops_same s t zero h = refl
tops_same s t (suc n) h =
    let e : get_or s n 0 ≡ get_or t n 0 = h n (omega arith) in
    let r : tops s n ≡ tops t n = tops_same s t n (λ i k. h i (omega arith)) in
    cc

pub tops_agree : (s t : List ℕ) (n from : ℕ) → from ≤ n → AgreeBelow n s t → tops (drop from s) (n - from) ≡ tops (drop from t) (n - from)
tops_agree s t n from le low =
    tops_same (drop from s) (drop from t) (n - from) (λ i h. get_or-drop from s i 0 ∙ low.same (from + i) (omega arith) ∙ sym (get_or-drop from t i 0))

pub part_agree : (s t : List ℕ) (n from count : ℕ) → from + count ≤ n → AgreeBelow n s t → take count (drop from s) ≡ take count (drop from t)
part_agree s t n from count le low =
    ext_get_or 0 (take count (drop from s)) (take count (drop from t)) (omega (arith, length-take count (drop from s), length-take count (drop from t), length-drop from s, length-drop from t, low.long)) (λ i h.
    let k : i < count = omega (arith, length-take count (drop from s)) in
    get_or-take count (drop from s) i 0 k ∙ get_or-drop from s i 0 ∙ low.same (from + i) (omega arith) ∙ sym (get_or-drop from t i 0) ∙ sym (get_or-take count (drop from t) i 0 k))

framed : Saved → List ℕ → List ℕ → Frame
framed x locals operands = record { place = x.place; room = x.room; count = x.count; height = x.height; locals = locals; operands = operands }

pub frame_agree : (x : Saved) (s t : List ℕ) (end : ℕ) → x.base + x.count ≤ end → AgreeBelow end s t → frame_at x s end ≡ frame_at x t end
unfolding framed
frame_agree x s t end le low =
    let e = part_agree s t end x.base x.count le low in
    let f = tops_agree s t end (x.base + x.count) le low in
    ap (λ (l : List ℕ). framed x l (tops (drop (x.base + x.count) s) (end - (x.base + x.count)))) e ∙ ap (λ (o : List ℕ). framed x (take x.count (drop x.base t)) o) f

pub frames_agree : (xs : List Saved) (s t : List ℕ) (end cells frames : ℕ) → AreStacked xs end cells frames → AgreeBelow end s t → frames_of xs s end ≡ frames_of xs t end
frames_agree [] s t end cells frames o low = refl
frames_agree (x ∷ xs) s t end cells frames o low =
    let le = o.0 in
    let e : frame_at x s end ≡ frame_at x t end = frame_agree x s t end o.0 low in
    let r : frames_of xs s x.base ≡ frames_of xs t x.base = frames_agree xs s t x.base cells frames o.3 (agree_less s t end x.base (omega arith) low) in
    cc

-- the operands of a caller, below those that are above them
pub tops_joined : (s : List ℕ) (from n k : ℕ) → from ≤ n → tops (drop from s) (n - from + k) ≡ tops (drop n s) k ++ tops (drop from s) (n - from)
tops_joined s from n zero le = let e : n - from + 0 ≡ n - from = omega arith in rw e refl
tops_joined s from n (suc k) le =
    let e : n - from + suc k ≡ suc (n - from + k) = omega arith in
    let at : get_or (drop from s) (n - from + k) 0 ≡ get_or (drop n s) k 0 = get_or-drop from s (n - from + k) 0 ∙ ap (λ i. get_or s i 0) (omega arith) ∙ sym (get_or-drop n s k 0) in
    let r = tops_joined s from n k le in
    rw (e, at, r) refl

-- the arguments, in their order
pub args_are : (s : List ℕ) (k n : ℕ) → k ≤ n → n ≤ length s → reverse (take k (tops s n)) ≡ take k (drop (n - k) s)
args_are s zero n le within = refl
args_are s (suc k) zero le within = absurd (omega arith)
args_are s (suc k) (suc n) le within =
    let at : get_or (drop (n - k) s) k 0 ≡ get_or s n 0 = get_or-drop (n - k) s k 0 ∙ ap (λ i. get_or s i 0) (omega arith) in
    let flip : reverse (get_or s n 0 ∷ take k (tops s n)) ≡ reverse (take k (tops s n)) ++ get_or s n 0 ∷ [] = reverse-append (get_or s n 0 ∷ []) (take k (tops s n)) in
    let more : take (k + 1) (drop (n - k) s) ≡ take k (drop (n - k) s) ++ get_or (drop (n - k) s) k 0 ∷ [] = take_more (drop (n - k) s) k 0 (omega (arith, length-drop (n - k) s)) in
    let one : suc k ≡ k + 1 = omega arith in
    let e : n - k ≡ suc n - suc k = omega arith in
    flip ∙ ap (λ l. l ++ get_or s n 0 ∷ []) (args_are s k n (omega arith) (omega arith)) ∙ ap (λ x. take k (drop (n - k) s) ++ x ∷ []) (sym at) ∙ sym more ∙ ap (λ j. take j (drop (n - k) s)) (sym one) ∙ ap (λ j. take (suc k) (drop j s)) e

-- saving a caller leaves those before it
saved_kept : (saved : List Saved) (x : Saved) (at n : ℕ) → n ≤ at → saved_list (slice_set saved at x) n ≡ saved_list saved n
saved_kept saved x at zero le = refl
saved_kept saved x at (suc n) le =
    let e : get_or (slice_set saved at x) n no_frame ≡ get_or saved n no_frame = get_or-set_other saved at n x no_frame (omega arith) in
    let r = saved_kept saved x at n (omega arith) in
    cc

pub saved_one : (saved : List Saved) (x : Saved) (at : ℕ) → at < length saved → saved_list (slice_set saved at x) (at + 1) ≡ x ∷ saved_list saved at
saved_one saved x at less =
    let e : get_or (slice_set saved at x) at no_frame ≡ x = get_or-set_same saved at x no_frame less in
    let r = saved_kept saved x at at (omega arith) in
    rw add-one (cc)

pub saved_first : (saved : List Saved) (n : ℕ) → 1 ≤ n → saved_list saved n ≡ get_or saved (n - 1) no_frame ∷ saved_list saved (n - 1)
saved_first saved zero h = absurd (omega arith)
saved_first saved (suc n) h = let e : suc n - 1 ≡ n = omega arith in rw e refl

pub saved_length : (saved : List Saved) (n : ℕ) → length (saved_list saved n) ≡ n
saved_length saved zero = refl
saved_length saved (suc n) = ap suc (saved_length saved n)
