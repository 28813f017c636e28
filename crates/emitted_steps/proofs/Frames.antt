-- Frames: a local is set, words stay, and fewer steps are left.
use Rattle.std.proofs.Common.{◌≡◌, ℕ, zero, suc, ◌+◌, ◌*◌, ◌<◌, ◌≤◌, List, [], ◌∷◌, length, Bool, true, false, nat_eq, refl, sym, ap, ◌∙◌, subst, arith}
use Rattle.std.specs.Prelude.{slice_index, slice_set}
use Rattle.std.proofs.lemmas.Bool.Decides.{nat_tests}
use Rattle.std.proofs.lemmas.List.{length-set, get_or-set_same, get_or-set_other}
use Rattle.mo_values.specs.Shapes.{unit}
use Rattle.core_ir.specs.Choices.{nth, filled}
use Rattle.core_ir.specs.Values.{Value}
use Rattle.core_ir.specs.CodeMachine as flat
use Rattle.core_ir.specs.CodeMachine.{Frame, Within, Again, put, depth_of}
use Rattle.heap_layout.specs.Ghosts.{Ghost}
use Rattle.heap_layout.specs.Means.{Rep}
use Rattle.heap_layout.specs.Heaps.{Plan}
use Rattle.heap_layout.specs.Later.{Later}
use Rattle.heap_layout.proofs.Meanings.{rep_later, value_later}
use Rattle.code_sequences.specs.Places.{Around, After, Turning, Caller}
use Rattle.flat_emission.specs.Emission.{Linkage, Here, slot}
use Rattle.emitted_steps.specs.States.{NamesAt, BlockAt, FrameHeld, Arounds, CallerHeld, Callers}

-- ---- lists by place

pub local_here : (locals : List ℕ) (x v : ℕ) → x < length locals → slice_index (slice_set locals x v) x ≡ v
local_here locals x v h = get_or-set_same locals x v 0 h

pub local_other : (locals : List ℕ) (x y v : ℕ) → (y ≡ x → ⊥) → slice_index (slice_set locals x v) y ≡ slice_index locals y
local_other locals x y v ne = get_or-set_other locals x y v 0 ne

pub nth_here : (xs : List Value) (t : ℕ) (v : Value) → nth unit (filled unit xs t v) t ≡ v
nth_here [] zero v = refl
nth_here [] (suc t) v = nth_here [] t v
nth_here (x ∷ xs) zero v = refl
nth_here (x ∷ xs) (suc t) v = nth_here xs t v

nth_none : (t x : ℕ) (v : Value) → (x ≡ t → ⊥) → nth unit (filled unit [] t v) x ≡ unit
nth_none zero zero v ne = absurd (ne refl)
nth_none zero (suc x) v ne = refl
nth_none (suc t) zero v ne = refl
nth_none (suc t) (suc x) v ne = nth_none t x v (λ e. ne (ap suc e))

pub nth_there : (xs : List Value) (t x : ℕ) (v : Value) → (x ≡ t → ⊥) → nth unit (filled unit xs t v) x ≡ nth unit xs x
nth_there [] t x v ne = nth_none t x v ne
nth_there (y ∷ xs) zero zero v ne = absurd (ne refl)
nth_there (y ∷ xs) zero (suc x) v ne = refl
nth_there (y ∷ xs) (suc t) zero v ne = refl
nth_there (y ∷ xs) (suc t) (suc x) v ne = nth_there xs t x v (λ e. ne (ap suc e))

pub same_number : (i j : ℕ) → nat_eq i j ≡ true → i ≡ j
same_number i j e = grind (arith, nat_tests, e)

pub equal_number : (i : ℕ) → nat_eq i i ≡ true
equal_number i = grind (arith, nat_tests)

pub other_numbers : (i j : ℕ) → nat_eq i j ≡ false → i ≡ j → ⊥
other_numbers i j e k = let no : false ≡ true = sym e ∙ ap (λ x. nat_eq x j) k ∙ equal_number j in absurd (cc no)

-- ---- a local is set

module _ (g : Ghost) (memory : List ℕ) (f : Frame) (here : Here) where
  -- locals behind the slots that have changed
  pub frame_kept : (locals locals' : List ℕ) → length locals' ≡ length locals → ((x : ℕ) → x < suc here.slots → slice_index locals' x ≡ slice_index locals x) → FrameHeld g memory f here locals → FrameHeld g memory f here locals'
  frame_kept locals locals' long same h = record {
    long = long ∙ h.long;
    slots = λ x lt. subst (λ w. Rep g memory w (nth unit f.slots x)) (sym (same (suc x) (omega (arith, lt)))) (h.slots x lt);
    b = h.b;
    block_is = same 0 (omega arith) ∙ h.block_is;
    low = h.low;
    block = h.block;
  }

  pub frame_behind : (locals : List ℕ) (y v : ℕ) → suc here.slots ≤ y → FrameHeld g memory f here locals → FrameHeld g memory f here (slice_set locals y v)
  frame_behind locals y v le h = frame_kept locals (slice_set locals y v) (length-set locals y v) (λ x lt. local_other locals y x v (λ e. omega (arith, le, lt, e))) h

  -- a slot is filled
  pub frame_put : (locals locals' : List ℕ) (t w : ℕ) (v : Value) → length locals' ≡ length locals → slice_index locals' (suc t) ≡ w → ((x : ℕ) → x < suc here.slots → (x ≡ suc t → ⊥) → slice_index locals' x ≡ slice_index locals x)
      → Rep g memory w v → FrameHeld g memory f here locals → FrameHeld g memory (put f t v) here locals'
  frame_put locals locals' t w v long at same r h = record {
    long = long ∙ h.long;
    slots = λ x lt. by x lt (nat_eq x t) refl;
    b = h.b;
    block_is = same 0 (omega arith) (λ e. omega (arith, e)) ∙ h.block_is;
    low = h.low;
    block = h.block;
  }
    where
      this : (x : ℕ) → x ≡ t → Rep g memory (slice_index locals' (suc x)) (nth unit (filled unit f.slots t v) x)
      this x e =
          subst (λ x. Rep g memory (slice_index locals' (suc x)) (nth unit (filled unit f.slots t v) x)) (sym e)
          (subst (λ u. Rep g memory u (nth unit (filled unit f.slots t v) t)) (sym at) (subst (λ u. Rep g memory w u) (sym (nth_here f.slots t v)) r))

      other : (x : ℕ) → x < here.slots → (x ≡ t → ⊥) → Rep g memory (slice_index locals' (suc x)) (nth unit (filled unit f.slots t v) x)
      other x lt ne =
          subst (λ u. Rep g memory u (nth unit (filled unit f.slots t v) x)) (sym (same (suc x) (omega (arith, lt)) (λ e. ne (omega (arith, e)))))
          (subst (λ u. Rep g memory (slice_index locals (suc x)) u) (sym (nth_there f.slots t x v ne)) (h.slots x lt))

      by : (x : ℕ) → x < here.slots → (q : Bool) → nat_eq x t ≡ q → Rep g memory (slice_index locals' (suc x)) (nth unit (filled unit f.slots t v) x)
      by x lt true e = this x (same_number x t e)
      by x lt false e = other x lt (other_numbers x t e)

  pub frame_slot : (locals : List ℕ) (t w : ℕ) (v : Value) → t < here.slots → Rep g memory w v → FrameHeld g memory f here locals → FrameHeld g memory (put f t v) here (slice_set locals (suc t) w)
  frame_slot locals t w v lt r h =
      frame_put locals (slice_set locals (suc t) w) t w v (length-set locals (suc t) w) (local_here locals (suc t) w (let s = h.long in omega (arith, lt, s))) (λ x less ne. local_other locals (suc t) x w ne) r h

-- ---- words stay

module _ (g g' : Ghost) (memory memory' : List ℕ) (l : Later g g' memory memory') where
  pub names_later : (at hidden : ℕ) (globals : List Value) → NamesAt g memory at hidden globals → NamesAt g' memory' at hidden globals
  names_later at hidden globals h = λ x le lt. value_later g g' memory memory' l (at + x) (nth unit globals x) (h x le lt)

  pub block_later : (b members group : ℕ) (seen : List Value) → BlockAt g memory b members group seen → BlockAt g' memory' b members group seen
  block_later b members group seen k = record {
    captured = λ x h. value_later g g' memory memory' l (b + (2 * members + x)) (nth unit seen x) (k.captured x h);
    member = λ j h. (l.groups group (k.member j h).1 ∙ (k.member j h).0, (let a = l.made in let c = (k.member j h).1 in omega arith), l.fixed (b + 2 * j) (k.member j h).2);
  }

  pub frame_later : (f : Frame) (here : Here) (locals : List ℕ) → FrameHeld g memory f here locals → FrameHeld g' memory' f here locals
  frame_later f here locals h = record {
    long = h.long;
    slots = λ x lt. rep_later g g' memory memory' l (slice_index locals (slot x)) (nth unit f.slots x) (h.slots x lt);
    b = h.b;
    block_is = h.block_is;
    low = h.low;
    block = block_later h.b here.members f.group f.seen h.block;
  }

module _ (plan : Plan) (link : Linkage) (globals : List Value) (sees : ℕ → ℕ) where
  pub arounds_fewer : (here : Here) (seen left left' : ℕ) (ks : List flat.Around) (ls : List Around) → left' ≤ left → Arounds plan link globals sees here seen left ks ls → Arounds plan link globals sees here seen left' ks ls
  arounds_fewer here seen left left' [] [] le h = h
  arounds_fewer here seen left left' [] (l ∷ ls) le h = absurd h
  arounds_fewer here seen left left' (Within r ∷ ks) [] le h = absurd h
  arounds_fewer here seen left left' (Again b r ∷ ks) [] le h = absurd h
  arounds_fewer here seen left left' (Within r ∷ ks) (Turning most body rest ∷ ls) le h = absurd h
  arounds_fewer here seen left left' (Again b r ∷ ks) (After rest ∷ ls) le h = absurd h
  arounds_fewer here seen left left' (Within r ∷ ks) (After rest ∷ ls) le h = (h.0, h.1, arounds_fewer here seen left left' ks ls le h.2)
  arounds_fewer here seen left left' (Again b r ∷ ks) (Turning most body rest ∷ ls) le h =
      ((let lt = h.0 in omega arith), h.1, h.2, h.3, h.4, arounds_fewer here seen left left' ks ls le h.5)

  pub callers_later : (g g' : Ghost) (memory memory' : List ℕ) → Later g g' memory memory' → (total left left' : ℕ) (cs : List flat.Caller) (ls : List Caller) → left' ≤ left → Callers plan link globals sees g memory total left cs ls → Callers plan link globals sees g' memory' total left' cs ls
  callers_later g g' memory memory' l total left left' [] [] le h = h
  callers_later g g' memory memory' l total left left' [] (k ∷ ks) le h = absurd h
  callers_later g g' memory memory' l total left left' (c ∷ cs) [] le h = absurd h
  callers_later g g' memory memory' l total left left' (c ∷ cs) (k ∷ ks) le h =
      let one : CallerHeld plan link globals sees g memory total left (depth_of cs) c k = h.0 in (
        record {
          here = one.here;
          plain = one.plain;
          to = one.to;
          to_fits = one.to_fits;
          rest = one.rest;
          fits = one.fits;
          frame = frame_later g g' memory memory' l c.frame one.here k.locals one.frame;
          around = arounds_fewer one.here (length c.frame.seen) left left' c.around k.around le one.around;
          results = one.results;
          room = one.room;
          deep = one.deep;
        },
        callers_later g g' memory memory' l total left left' cs ks le h.1,
      )
