-- Lines put one by one.
use Rattle.std.proofs.Common.{◌≡◌, ℕ, ◌+◌, ◌<◌, List, [], ◌∷◌, ◌++◌, length, take, drop, get_or, refl, sym, ap, subst, ◌∙◌, Option, add-one, drop-cons}
use Rattle.std.proofs.lemmas.List.{append-nil, append_assoc, take-append-drop, take_more}
use Rattle.std.proofs.KnownBytes.{Appends-trans}
use Rattle.std.specs.Io.KnownBytes.{Appends}
use Rattle.outer.specs.Sinks.{AppendsPrefix}
use Rattle.mo_play.proofs.Lines.{prefix_put}
use Rattle.mo_command.specs.Uncovered.{joined}

joined_more : (ls : List (List ℕ)) (l : List ℕ) → joined (ls ++ l ∷ []) ≡ joined ls ++ l
joined_more [] l = append-nil l
joined_more (k ∷ ls) l = ap (λ z. k ++ z) (joined_more ls l) ∙ sym (append_assoc k (joined ls) l)

joined_split : (ls : List (List ℕ)) (l : List ℕ) (ks : List (List ℕ)) → joined (ls ++ (l ∷ ks)) ≡ joined ls ++ (l ++ joined ks)
joined_split [] l ks = refl
joined_split (k ∷ ls) l ks = ap (λ z. k ++ z) (joined_split ls l ks) ∙ sym (append_assoc k (joined ls) (l ++ joined ks))

split_at : (ls : List (List ℕ)) (i : ℕ) (d : List ℕ) → i < length ls → ls ≡ take i ls ++ (get_or ls i d ∷ drop (i + 1) ls)
split_at ls i d lt = sym (take-append-drop i ls) ∙ ap (λ (r : List (List ℕ)). take i ls ++ r) (rw (add-one, drop-cons ls i d) refl)

-- this line was put, and a prefix of it
abbrev pub LinePut : List ℕ → Option (List ℕ) → Option (List ℕ) → Type 0
LinePut l old new = (text : List ℕ) × (text ≡ l) × Appends old new text

abbrev pub LineBegun : List ℕ → Option (List ℕ) → Option (List ℕ) → Type 0
LineBegun l old new = (text : List ℕ) × (text ≡ l) × AppendsPrefix old new text

-- the next line
pub put_next : (ls : List (List ℕ)) (i : ℕ) (l : List ℕ) (old middle new : Option (List ℕ)) → i < length ls → l ≡ get_or ls i l → Appends old middle (joined (take i ls)) → LinePut l middle new → Appends old new (joined (take (i + 1) ls))
put_next ls i l old middle new lt e a b =
    subst (λ t. Appends old new t) (sym (ap joined (take_more ls i l lt ∙ ap (λ k. take i ls ++ k ∷ []) (sym e)) ∙ joined_more (take i ls) l))
    (Appends-trans old middle new (joined (take i ls)) l a (subst (λ t. Appends middle new t) b.1 b.2))

-- a line of which a prefix was put
pub put_stopped : (ls : List (List ℕ)) (i : ℕ) (l : List ℕ) (old middle new : Option (List ℕ)) → i < length ls → l ≡ get_or ls i l → Appends old middle (joined (take i ls)) → LineBegun l middle new → AppendsPrefix old new (joined ls)
put_stopped ls i l old middle new lt e a b =
    subst (λ t. AppendsPrefix old new t) (sym (ap joined (split_at ls i l lt ∙ ap (λ k. take i ls ++ (k ∷ drop (i + 1) ls)) (sym e)) ∙ joined_split (take i ls) l (drop (i + 1) ls)))
    (prefix_put old middle new (joined (take i ls)) l (joined (drop (i + 1) ls)) a (subst (λ t. AppendsPrefix middle new t) b.1 b.2))
