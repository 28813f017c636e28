-- How a call hands over to a body, and a body to its caller.
use Rattle.std.proofs.Common.{◌≡◌, ℕ, zero, suc, ◌+◌, ◌-◌, ◌*◌, ◌<◌, ◌≤◌, List, ◌∷◌, ◌++◌, length, take, drop, get_or, refl, sym, ap, ◌∙◌, subst, arith, append_assoc, length-append, length-take, length-drop}
use Rattle.std.specs.Prelude.{reverse, replicate, slice_set, slice_index}
use Rattle.std.proofs.lemmas.List.{length-set, length-replicate, drop-append-le, drop-take, drop-drop, get_or-drop}
use Rattle.std.proofs.Math.Seq.{take-append-add, take-append_seam}
use Rattle.wasm_steps.specs.Calls.{Frame}
use Rattle.wasm_machine.specs.declared.frames.Saved.{Saved}
use Rattle.wasm_machine.specs.declared.frames.Here.{Here}
use Rattle.wasm_machine.specs.Operands.{tops}
use Rattle.wasm_machine.specs.Stacks.{no_frame, saved_list, frame_at, frames_of, frames_under, AreStacked, AgreeBelow, IsCaller, operands_of}
use Rattle.wasm_machine.proofs.Tops.{tops_drop}
use Rattle.wasm_machine.proofs.Cells.{agree_less, agree_part, frame_agree, frames_agree, part_agree, tops_agree, tops_joined, args_are, saved_one, saved_first, saved_length}

-- the cells with cleared ones agree with those before, below them
pub cleared_agree : (cells written : List ℕ) (from count n : ℕ) → from + count ≤ length cells → written ≡ take from cells ++ replicate count 0 ++ drop (from + count) cells → n ≤ from → AgreeBelow n written cells
cleared_agree cells written from count n within e le =
    let low : AgreeBelow from (take from cells ++ (replicate count 0 ++ drop (from + count) cells)) cells = agree_part cells (replicate count 0 ++ drop (from + count) cells) from (omega arith) (omega (arith, length-append (replicate count 0) (drop (from + count) cells), length-replicate {A = ℕ} count 0, length-drop (from + count) cells)) in
    agree_less written cells from n le (subst (λ w. AgreeBelow from w cells) (sym (e ∙ append_assoc (take from cells) (replicate count 0) (drop (from + count) cells))) low)

pub begin_frames : (saved : List Saved) (x : Saved) (cells written : List ℕ) (depth end held params have frames : ℕ) → depth < length saved → params ≤ held → x.base + x.count + held ≡ end + params → AgreeBelow end written cells → AreStacked (saved_list saved depth) x.base have frames → frames_of (saved_list (slice_set saved depth x) (depth + 1)) written end ≡ record { place = x.place; room = x.room; count = x.count; height = x.height; locals = take x.count (drop x.base cells); operands = drop params (tops (drop (x.base + x.count) cells) held) } ∷ frames_of (saved_list saved depth) cells x.base
begin_frames saved x cells written depth end held params have frames less le sum low stacked =
    let n : ℕ = end - (x.base + x.count) in
    let e : held - n ≡ params = omega arith in
    let cut : tops (drop (x.base + x.count) cells) n ≡ drop params (tops (drop (x.base + x.count) cells) held) = sym (tops_drop (drop (x.base + x.count) cells) held n (omega arith)) ∙ ap (λ i. drop i (tops (drop (x.base + x.count) cells) held)) e in
    let here : frame_at x written end ≡ frame_at x cells end = frame_agree x written cells end (omega arith) low in
    let rest : frames_of (saved_list saved depth) written x.base ≡ frames_of (saved_list saved depth) cells x.base = frames_agree (saved_list saved depth) written cells x.base have frames stacked (agree_less written cells end x.base (omega arith) low) in
    ap (λ l. frames_of l written end) (saved_one saved x depth less)
    ∙ ap (λ (f : Frame). f ∷ frames_of (saved_list saved depth) written x.base) here
    ∙ ap (λ (fs : List Frame). frame_at x cells end ∷ fs) rest
    ∙ ap (λ (o : List ℕ). record { place = x.place; room = x.room; count = x.count; height = x.height; locals = take x.count (drop x.base cells); operands = o } ∷ frames_of (saved_list saved depth) cells x.base) cut

pub begin_locals : (cells written : List ℕ) (floor end held params locals : ℕ) → written ≡ take (end + params) cells ++ replicate locals 0 ++ drop (end + params + locals) cells → end + params + locals ≤ length cells → floor + held ≡ end + params → params ≤ held → take (params + locals) (drop end written) ≡ reverse (take params (tops (drop floor cells) held)) ++ replicate locals 0
begin_locals cells written floor end held params locals e within sum le =
    let front : List ℕ = take params (drop end cells) in
    let back : List ℕ = drop (end + params + locals) cells in
    let len : length front ≡ params = omega (arith, length-take params (drop end cells), length-drop end cells) in
    let split : drop end written ≡ front ++ (replicate locals 0 ++ back) =
    ap (drop end) (e ∙ append_assoc (take (end + params) cells) (replicate locals 0) back) ∙ drop-append-le end (take (end + params) cells) (replicate locals 0 ++ back) (omega (arith, length-take (end + params) cells)) ∙ ap (λ l. l ++ (replicate locals 0 ++ back)) (drop-take end params cells) in
    let zeros : take locals (replicate locals 0 ++ back) ≡ replicate locals 0 = subst (λ n. take n (replicate locals 0 ++ back) ≡ replicate locals 0) (length-replicate {A = ℕ} locals 0) (take-append_seam (replicate locals 0) back) in
    let all : take (params + locals) (front ++ (replicate locals 0 ++ back)) ≡ front ++ take locals (replicate locals 0 ++ back) = subst (λ n. take (n + locals) (front ++ (replicate locals 0 ++ back)) ≡ front ++ take locals (replicate locals 0 ++ back)) len (take-append-add front (replicate locals 0 ++ back) locals) in
    let args : reverse (take params (tops (drop floor cells) held)) ≡ front = args_are (drop floor cells) params held le (omega (arith, length-drop floor cells)) ∙ ap (take params) (drop-drop (held - params) floor cells ∙ ap (λ i. drop i cells) (omega arith)) in
    ap (take (params + locals)) split ∙ all ∙ ap (λ l. front ++ l) zeros ∙ ap (λ l. l ++ replicate locals 0) (sym args)

pub begin_stacked : (saved : List Saved) (x : Saved) (cells written : List ℕ) (depth end count height room : ℕ) → x.base + x.count + x.height + x.room ≤ length cells → 8 * depth + 8 + x.room ≤ 8 * length saved → depth < length saved → x.base + x.count ≤ end → AreStacked (saved_list saved depth) x.base (length cells) (length saved) → length written ≡ length cells → AreStacked (saved_list (slice_set saved depth x) (depth + 1)) end (length written) (length (slice_set saved depth x))
begin_stacked saved x cells written depth end count height room fits many less le stacked same =
    let own : 8 * length (saved_list saved depth) + 8 + x.room ≤ 8 * length saved = rw saved_length many in
    let all : AreStacked (x ∷ saved_list saved depth) end (length cells) (length saved) = (le, fits, own, stacked) in
    subst (λ n. AreStacked (saved_list (slice_set saved depth x) (depth + 1)) end (length written) n) (sym (length-set saved depth x)) (subst (λ n. AreStacked (saved_list (slice_set saved depth x) (depth + 1)) end n (length saved)) (sym same) (subst (λ l. AreStacked l end (length cells) (length saved)) (sym (saved_one saved x depth less)) all))

-- what is known of the innermost caller
pub record Known (saved : List Saved) (depth base cells : ℕ) (x : Saved) : Type 0 where
  pub below : x.base + x.count ≤ base
  pub fits : x.base + x.count + x.height + x.room ≤ cells
  pub many : 8 * (depth - 1) + 8 + x.room ≤ 8 * length saved
  pub callers : AreStacked (saved_list saved (depth - 1)) x.base cells (length saved)

pub known : (saved : List Saved) (depth base cells : ℕ) → 1 ≤ depth → AreStacked (saved_list saved depth) base cells (length saved) → Known saved depth base cells (get_or saved (depth - 1) no_frame)
known saved depth base cells some stacked =
    let all : AreStacked (get_or saved (depth - 1) no_frame ∷ saved_list saved (depth - 1)) base cells (length saved) = subst (λ l. AreStacked l base cells (length saved)) (saved_first saved depth some) stacked in
    record { below = all.0; fits = all.1; many = subst (λ n. 8 * n + 8 + (get_or saved (depth - 1) no_frame).room ≤ 8 * length saved) (saved_length saved (depth - 1)) all.2; callers = all.3 }

given_on : (cells written : List ℕ) (from base floor results : ℕ) → floor ≤ base → results ≤ 1 → AgreeBelow base written cells → (results ≡ 1 → slice_index written base ≡ slice_index cells from) → tops (drop from cells) results ++ tops (drop floor cells) (base - floor) ≡ tops (drop floor written) (base - floor + results)
given_on cells written from base floor zero le few low given =
    sym (tops_agree written cells base floor le low) ∙ ap (tops (drop floor written)) (let e : base - floor ≡ base - floor + 0 = omega arith in e)
given_on cells written from base floor (suc zero) le few low given =
    let below : tops (drop floor cells) (base - floor) ≡ tops (drop floor written) (base - floor) = sym (tops_agree written cells base floor le low) in
    let first : get_or (drop from cells) 0 0 ≡ get_or (drop base written) 0 0 =
    get_or-drop from cells 0 0 ∙ ap (λ i. get_or cells i 0) (let e : from + 0 ≡ from = omega arith in e) ∙ sym (given refl) ∙ ap (λ i. get_or written i 0) (let e : base ≡ base + 0 = omega arith in e) ∙ sym (get_or-drop base written 0 0) in
    ap (λ v. v ∷ tops (drop floor cells) (base - floor)) first ∙ ap (λ l. get_or (drop base written) 0 0 ∷ l) below ∙ sym (tops_joined written floor base 1 le)
given_on cells written from base floor (suc (suc n)) le few low given = absurd (omega arith)

pub finish_caller : (saved : List Saved) (cells written : List ℕ) (before after : Here) (results : ℕ) → 1 ≤ before.depth → AreStacked (saved_list saved before.depth) before.base (length cells) (length saved) → AgreeBelow before.base written cells → results ≤ 1 → (results ≡ 1 → slice_index written before.base ≡ slice_index cells (before.base + before.count)) → after.depth ≡ before.depth - 1 → record { place = after.place; base = after.base; count = after.count; height = after.height; room = after.room } ≡ get_or saved (before.depth - 1) no_frame → after.held ≡ before.base - (after.base + after.count) + results → IsCaller saved before after cells written (operands_of before cells results)
finish_caller saved cells written before after results some stacked low few given depth is held =
    let x : Saved = record { place = after.place; base = after.base; count = after.count; height = after.height; room = after.room } in
    let k : Known saved before.depth before.base (length cells) x = subst (λ y. Known saved before.depth before.base (length cells) y) (sym is) (known saved before.depth before.base (length cells) some stacked) in
    let callers : List Saved = saved_list saved (before.depth - 1) in
    let first : saved_list saved before.depth ≡ x ∷ callers = saved_first saved before.depth some ∙ ap (λ y. y ∷ callers) (sym is) in
    let rest : frames_of callers cells after.base ≡ frames_of callers written after.base =
    sym (frames_agree callers written cells after.base (length cells) (length saved) k.callers (agree_less written cells before.base after.base (let h = k.below in omega arith) low)) in
    let shown : frames_of callers written after.base ≡ frames_under saved after written = ap (λ n. frames_of (saved_list saved n) written after.base) (sym depth) in
    record {
      frame = frame_at x cells before.base;
      frames = ap (λ l. frames_of l cells before.base) first ∙ ap (λ (fs : List Frame). frame_at x cells before.base ∷ fs) (rest ∙ shown);
      place = refl;
      room = refl;
      count = refl;
      height = refl;
      locals = sym (part_agree written cells before.base after.base after.count k.below low);
      operands = given_on cells written (before.base + before.count) before.base (after.base + after.count) results k.below few low given ∙ ap (tops (drop (after.base + after.count) written)) (sym held);
    }
