-- What stands around is as it was, once the names of a public function are taken away.
use Rattle.std.proofs.Common.{◌≡◌, ◌∙◌, List, [], ◌++◌, map, sym, ap, append_assoc}
use Rattle.std.specs.Prelude.{Result, Ok, Err, OnOk}
use Rattle.std.proofs.lemmas.List.{append-nil}
use Rattle.typing_rules.specs.AbstractSyntax.{Bytes}
use Rattle.desugaring.specs.Frames.{Entry, Exit, Frame, hidden_by, value, with_entries, with_names}
use Rattle.kernel_frames.specs.declared.names.Mark.{Mark}
use Rattle.kernel_frames.specs.Places.{Cuts, IsMark, frame}

same_frame : (f g : Frame) → f.names ≡ g.names → f.exits ≡ g.exits → f ≡ g
same_frame f g e h = ap (λ (l : List Entry). frame l f.exits) e ∙ ap (λ (l : List Exit). frame g.names l) h

-- Names were added in two steps, and a part was written out.
module _ (es : List Entry) (xs : List Bytes) (old mid now : Frame) (e : mid ≡ with_entries es (with_names xs old)) (h : now ≡ mid) where
  grown : now.names ≡ (es ++ map value xs) ++ old.names
  grown = ap (λ (f : Frame). f.names) (h ∙ e) ∙ sym (append_assoc es (map value xs) old.names)

  pub cuts : (m : Mark) → IsMark m old.names → Cuts m now.names
  cuts m i = record { more = es ++ map value xs; before = old.names; whole = grown; mark = i }

  pub back : (m : Mark) (new : Frame) → IsMark m old.names → new.exits ≡ now.exits → ((more before : List Entry) → now.names ≡ more ++ before → IsMark m before → new.names ≡ before) → new ≡ old
  back m new i k c = same_frame new old (c (es ++ map value xs) old.names grown i) (k ∙ ap (λ (f : Frame). f.exits) (h ∙ e))

pub entered : {A E : Type 0} (r : Result A E) (old inner now new : Frame) (es : List Exit) → inner ≡ frame old.names es → OnOk r (now ≡ inner) → new ≡ frame now.names old.exits → OnOk r (new ≡ old)
entered (Ok a) old inner now new es e h g = g ∙ ap (λ (l : List Entry). frame l old.exits) (ap (λ (f : Frame). f.names) (h ∙ e))
entered (Err x) old inner now new es e h g = tt

pub on_ok : {A E : Type 0} (r : Result A E) (P : Type 0) → P → OnOk r P
on_ok (Ok a) P h = h
on_ok (Err x) P h = tt

-- ---- the names of a public function

pub pushed_is : (old mid now : Frame) (hiding first second own none names : List Bytes) → none ≡ [] → hiding ≡ none ++ own → first ≡ hiding → second ≡ hiding → (whole : List Bytes) → names ≡ [] ++ whole
    → mid ≡ with_names first old → now ≡ with_entries (map (hidden_by second) names) mid → now ≡ with_entries (map (hidden_by own) whole) (with_names own old)
pushed_is old mid now hiding first second own none names a b c d whole e f g =
    let k : hiding ≡ own = b ∙ ap (λ (l : List Bytes). l ++ own) a in
    g ∙ (ap (λ (l : List Bytes). with_entries (map (hidden_by l) names) mid) (d ∙ k)
    ∙ (ap (λ (l : List Bytes). with_entries (map (hidden_by own) l) mid) e
    ∙ ap (λ (z : Frame). with_entries (map (hidden_by own) whole) z) (f ∙ ap (λ (l : List Bytes). with_names l old) (c ∙ k))))

-- ---- the names of a context

pub none_more : (whole a : List Bytes) → whole ≡ [] → a ≡ a ++ whole
none_more whole a e = sym (ap (λ (z : List Bytes). a ++ z) e ∙ append-nil a)

pub same_more : {A E : Type 0} (r : Result A E) (whole n a c : List Bytes) → OnOk r (c ≡ a ++ n) → whole ≡ n → OnOk r (c ≡ a ++ whole)
same_more (Ok x) whole n a c h e = h ∙ ap (λ (z : List Bytes). a ++ z) (sym e)
same_more (Err x) whole n a c h e = tt
