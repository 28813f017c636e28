-- Lists that are the same place by place are as long.
use Rattle.std.proofs.Common.{◌≡◌, suc, List, [], ◌∷◌, length, refl, ap}
use Rattle.mo_types.specs.declared.wire.Entry.{Entry}
use Rattle.mo_types.specs.declared.wire.Method.{Method}
use Rattle.mo_types.specs.Wire.{SameParts, SameEntries, SameMethods}

module _ {A B : Type 0} (R : A → B → Type 0) where
  pub part_counts : (xs : List A) (ys : List B) → SameParts R xs ys → length xs ≡ length ys
  part_counts [] [] h = refl
  part_counts (x ∷ xs) (y ∷ ys) h = ap suc (part_counts xs ys h.1)
  part_counts [] (y ∷ ys) h = absurd h
  part_counts (x ∷ xs) [] h = absurd h

  pub entry_counts : (xs : List (Entry A)) (ys : List (Entry B)) → SameEntries R xs ys → length xs ≡ length ys
  entry_counts [] [] h = refl
  entry_counts (x ∷ xs) (y ∷ ys) h = ap suc (entry_counts xs ys h.2)
  entry_counts [] (y ∷ ys) h = absurd h
  entry_counts (x ∷ xs) [] h = absurd h

  pub method_counts : (xs : List (Method A)) (ys : List (Method B)) → SameMethods R xs ys → length xs ≡ length ys
  method_counts [] [] h = refl
  method_counts (x ∷ xs) (y ∷ ys) h = ap suc (method_counts xs ys h.2)
  method_counts [] (y ∷ ys) h = absurd h
  method_counts (x ∷ xs) [] h = absurd h
