-- What waits, as one goal is taken off or put on.
use Rattle.std.proofs.Common.{◌≡◌, ℕ, zero, suc, ◌+◌, ◌-◌, ◌<◌, List, [], ◌∷◌, ◌++◌, drop, Some, None, refl, add-one, ap, ◌∙◌, arith}
use Rattle.std.specs.Prelude.{reverse, slice_get}
use Rattle.std.proofs.lemmas.List.{reverse-append}
use Rattle.mo_types.specs.declared.wire.Entry.{Entry}
use Rattle.mo_types.specs.declared.wire.Wire.{Wire}
use Rattle.mo_types.specs.Values.{copies}
use Rattle.candid_read.specs.declared.todo.Goal.{Goal}
use Rattle.candid_types.specs.Inside.{parts_of}
use Rattle.candid_read.specs.Whole.{entry_type, goal_types, left}

pub put_one : (g : List (Wire ℕ)) (old : List Goal) (goal : Goal) → left g (reverse (old ++ goal ∷ [])) ≡ goal_types g goal ++ left g (reverse old)
put_one g old goal = ap (left g) (reverse-append old (goal ∷ []))

pub took_one : (g : List (Wire ℕ)) (new old : List Goal) (goal : Goal) → old ≡ new ++ goal ∷ [] → left g (reverse old) ≡ goal_types g goal ++ left g (reverse new)
took_one g new old goal e = ap (λ (l : List Goal). left g (reverse l)) e ∙ put_one g new goal

pub copies_more : (n : ℕ) (t : ℕ) → 0 < n → copies n t ≡ t ∷ copies (n - 1) t
copies_more zero t h = absurd (omega arith)
copies_more (suc n) t h = let e : suc n - 1 ≡ n = omega arith in rw e refl

pub drop_types : (fs : List (Entry ℕ)) (i : ℕ) (t : ℕ) → entry_type (slice_get fs i) ≡ Some t → parts_of (drop i fs) ≡ t ∷ parts_of (drop (suc i) fs)
drop_types [] zero t h = cc
drop_types [] (suc i) t h = cc
drop_types (f ∷ fs) zero t h = let e : f.part ≡ t = cc in ap (λ (x : ℕ). x ∷ parts_of fs) e
drop_types (f ∷ fs) (suc i) t h = drop_types fs i t h

pub drop_none : (fs : List (Entry ℕ)) (i : ℕ) → entry_type (slice_get fs i) ≡ None → parts_of (drop i fs) ≡ []
drop_none [] zero h = refl
drop_none [] (suc i) h = refl
drop_none (f ∷ fs) zero h = cc
drop_none (f ∷ fs) (suc i) h = drop_none fs i h

pub drop_more : (fs : List (Entry ℕ)) (i : ℕ) (t : ℕ) → entry_type (slice_get fs i) ≡ Some t → parts_of (drop i fs) ≡ t ∷ parts_of (drop (i + 1) fs)
drop_more fs i t h = rw add-one (drop_types fs i t h)
