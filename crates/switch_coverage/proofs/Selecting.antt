-- Switches looked at one after another.
use Rattle.std.proofs.Common.{◌≡◌, inl, inr, ℕ, zero, suc, ◌+◌, ◌<◌, List, [], ◌∷◌, ◌++◌, length, map, take, get_or, Some, refl, sym, ap, ◌∙◌, subst}
use Rattle.std.specs.Option.{option_map}
use Rattle.std.specs.Prelude.{slice_get}
use Rattle.std.proofs.lemmas.List.{take_more}
use Rattle.std.proofs.lemmas.Option.{slice_get-map, slice_get_read}
use Rattle.mo_types.specs.Graph.{Slot}
use Rattle.mo_types.specs.Sub.{Each}
use Rattle.pattern_coverage.specs.Cover.{Coverage}
use Rattle.pattern_coverage.specs.Cover as cover
use Rattle.switch_coverage.specs.declared.walk.Found.{Found}
use Rattle.switch_coverage.specs.Found.{switch_in, switches_in}
use Rattle.switch_coverage.specs.Switches.{Switch}
use Rattle.switch_coverage.specs.Uncovered.{Missing, Fits, Says, Selects, with_next}
use Rattle.switch_coverage.proofs.Lists.{one_more}

module _ (types : List Slot) where
  one : (s : Switch) (c : Coverage) → Says types s c → Selects types (s ∷ []) (with_next s.token s.of_type c [])
  one s cover.Whole h = (h, tt)
  one s (cover.Misses k) h = inr (refl, refl, h, tt)

  -- the next switch, behind those before
  pub next : (ss : List Switch) (ms : List Missing) (s : Switch) (c : Coverage) → Selects types ss ms → Says types s c → Selects types (ss ++ s ∷ []) (with_next s.token s.of_type c ms)
  next [] [] s c h r = one s c r
  next [] (m ∷ ms) s c h r = absurd h
  next (t ∷ ss) [] s cover.Whole h r = (h.0, next ss [] s cover.Whole h.1 r)
  next (t ∷ ss) [] s (cover.Misses k) h r = inl (h.0, next ss [] s (cover.Misses k) h.1 r)
  next (t ∷ ss) (m ∷ ms) s cover.Whole (inl h) r = inl (h.0, next ss (m ∷ ms) s cover.Whole h.1 r)
  next (t ∷ ss) (m ∷ ms) s (cover.Misses k) (inl h) r = inl (h.0, next ss (m ∷ ms) s (cover.Misses k) h.1 r)
  next (t ∷ ss) (m ∷ ms) s cover.Whole (inr h) r = inr (h.0, h.1, h.2, next ss ms s cover.Whole h.3 r)
  next (t ∷ ss) (m ∷ ms) s (cover.Misses k) (inr h) r = inr (h.0, h.1, h.2, next ss ms s (cover.Misses k) h.3 r)

-- ---- by their places in the list that was found

each_at : {A : Type 0} (P : A → Type 0) (xs : List A) (n : ℕ) (x : A) → slice_get xs n ≡ Some x → Each P xs → P x
each_at P [] n x g h = cc
each_at P (y ∷ xs) zero x g h = subst P (let e : y ≡ x = cc in e) h.0
each_at P (y ∷ xs) (suc n) x g h = each_at P xs n x g h.1

at_index : {A B : Type 0} (f : A → B) (xs : List A) (i : ℕ) (x : A) → i < length xs → x ≡ get_or xs i x → slice_get (map f xs) i ≡ Some (f x)
at_index f xs i x h e = slice_get-map f xs i ∙ ap (option_map f) (slice_get_read xs (length xs) i x refl h e)

pub fits_at : (types : List Slot) (found : List Found) (i : ℕ) (f : Found) → i < length found → f ≡ get_or found i f → Each (Fits types) (switches_in found) → Fits types (switch_in f)
fits_at types found i f l e h = each_at (Fits types) (switches_in found) i (switch_in f) (at_index switch_in found i f l e) h

pub next_found : (types : List Slot) (found : List Found) (i : ℕ) (f : Found) (c : Coverage) (ms : List Missing) → i < length found → f ≡ get_or found i f → Selects types (switches_in (take i found)) ms → Says types (switch_in f) c
    → Selects types (switches_in (take (i + 1) found)) (with_next f.token f.of_type c ms)
next_found types found i f c ms l e h s =
    subst (λ ss. Selects types ss (with_next f.token f.of_type c ms)) (sym (ap switches_in (take_more found i f l ∙ ap (λ g. take i found ++ g ∷ []) (sym e)) ∙ one_more switch_in (take i found) f))
    (next types (switches_in (take i found)) ms (switch_in f) c h s)
