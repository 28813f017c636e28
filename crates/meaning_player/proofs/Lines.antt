-- What was put of the lines of items, item by item.
use Rattle.std.proofs.Common.{◌≡◌, ℕ, ◌+◌, ◌<◌, List, [], ◌∷◌, ◌++◌, length, take, get_or, refl, sym, ap, subst, ◌∙◌, Option}
use Rattle.std.proofs.lemmas.List.{append_assoc, append-nil, take_more}
use Rattle.std.proofs.KnownBytes.{Appends-nil, Appends-trans}
use Rattle.std.specs.Io.KnownBytes.{Appends}
use Rattle.play_script.specs.Items.{ItemText, ItemsText}
use Rattle.play_script.specs.declared.item.Item.{Item}
use Rattle.meaning_player.specs.Played.{ArePut}

items_append : (xs ys : List Item) (s t : List ℕ) → ItemsText xs s → ItemsText ys t → ItemsText (xs ++ ys) (s ++ t)
items_append [] ys s t h k = subst (λ (r : List ℕ). ItemsText ys (r ++ t)) (sym h) k
items_append (x ∷ xs) ys s t h k = (h.0, h.1 ++ t, h.2, items_append xs ys h.1 t h.3 k, ap (λ (r : List ℕ). r ++ t) h.4 ∙ append_assoc h.0 h.1 t)

pub none_put : (old : Option (List ℕ)) → ArePut [] old old
none_put old = ([], refl, Appends-nil old)

pub more_put : (xs ys : List Item) (old middle new : Option (List ℕ)) → ArePut xs old middle → ArePut ys middle new → ArePut (xs ++ ys) old new
more_put xs ys old middle new p q = (p.0 ++ q.0, items_append xs ys p.0 q.0 p.1 q.1, Appends-trans old middle new p.0 q.0 p.2 q.2)

line_put : (x : Item) (line : List ℕ) (old new : Option (List ℕ)) → ItemText x line → Appends old new line → ArePut (x ∷ []) old new
line_put x line old new h a = (line ++ [], (line, [], h, refl, refl), subst (λ (t : List ℕ). Appends old new t) (sym (append-nil line)) a)

-- The next item of a list.
pub next_put : (items : List Item) (i : ℕ) (x : Item) (line : List ℕ) (old middle new : Option (List ℕ)) → i < length items → x ≡ get_or items i x → ArePut (take i items) old middle → ItemText x line
    → Appends middle new line → ArePut (take (i + 1) items) old new
next_put items i x line old middle new lt e p h a =
    let next : take (i + 1) items ≡ take i items ++ x ∷ [] = take_more items i x lt ∙ ap (λ (y : Item). take i items ++ y ∷ []) (sym e) in
    subst (λ (xs : List Item). ArePut xs old new) (sym next) (more_put (take i items) (x ∷ []) old middle new p (line_put x line middle new h a))
