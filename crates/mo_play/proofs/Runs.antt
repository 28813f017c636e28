-- What was put of the lines of items, item by item.
use Rattle.std.proofs.Common.{◌≡◌, ℕ, ◌+◌, ◌<◌, List, [], ◌∷◌, ◌++◌, length, take, drop, get_or, refl, sym, ap, subst, ◌∙◌, Option, add-one, drop-cons}
use Rattle.std.proofs.lemmas.List.{append-nil, take-append-drop, take_more}
use Rattle.std.proofs.KnownBytes.{Appends-nil, Appends-trans}
use Rattle.std.specs.Io.KnownBytes.{Appends}
use Rattle.outer.specs.Sinks.{AppendsPrefix}
use Rattle.play_script.specs.Items.{ItemText, ItemsText}
use Rattle.play_script.specs.declared.item.Item.{Item}
use Rattle.mo_play.proofs.Lines.{item_line, items_lines, items_append, item_alone, front_put, nothing_put, prefix_put}

-- The lines of these items were put.
pub record HasPut (items : List Item) (old new : Option (List ℕ)) : Type 0 where
  pub text : List ℕ
  pub lines : ItemsText items text
  pub put : Appends old new text

-- A prefix of the lines of these items was put.
pub record HasBegun (items : List Item) (old new : Option (List ℕ)) : Type 0 where
  pub text : List ℕ
  pub lines : ItemsText items text
  pub put : AppendsPrefix old new text

pub none_put : (old : Option (List ℕ)) → HasPut [] old old
none_put old = record { text = []; lines = refl; put = Appends-nil old }

pub more_put : (xs ys : List Item) (old middle new : Option (List ℕ)) → HasPut xs old middle → HasPut ys middle new → HasPut (xs ++ ys) old new
more_put xs ys old middle new p q = record { text = p.text ++ q.text; lines = items_append xs ys p.text q.text p.lines q.lines; put = Appends-trans old middle new p.text q.text p.put q.put }

-- What was put is a prefix, whatever items follow.
pub put_begun : (xs ys : List Item) (old new : Option (List ℕ)) → HasPut xs old new → HasBegun (xs ++ ys) old new
put_begun xs ys old new p =
    let rest = items_lines ys in
    record { text = p.text ++ rest.0; lines = items_append xs ys p.text rest.0 p.lines rest.1; put = front_put old new p.text rest.0 (p.text ++ rest.0) refl p.put }

-- And so is a prefix of what comes next.
pub begun_more : (xs ys zs : List Item) (old middle new : Option (List ℕ)) → HasPut xs old middle → HasBegun ys middle new → HasBegun (xs ++ (ys ++ zs)) old new
begun_more xs ys zs old middle new p q =
    let rest = items_lines zs in
    record {
      text = p.text ++ (q.text ++ rest.0);
      lines = items_append xs (ys ++ zs) p.text (q.text ++ rest.0) p.lines (items_append ys zs q.text rest.0 q.lines rest.1);
      put = prefix_put old middle new p.text q.text rest.0 p.put q.put;
    }

-- One line.
pub line_put : (x : Item) (line : List ℕ) (old new : Option (List ℕ)) → ItemText x line → Appends old new line → HasPut (x ∷ []) old new
line_put x line old new h a = record { text = line ++ []; lines = item_alone x line h; put = subst (λ (t : List ℕ). Appends old new t) (sym (append-nil line)) a }

pub line_begun : (x : Item) (line : List ℕ) (old new : Option (List ℕ)) → ItemText x line → AppendsPrefix old new line → HasBegun (x ∷ []) old new
line_begun x line old new h a = record { text = line ++ []; lines = item_alone x line h; put = subst (λ (t : List ℕ). AppendsPrefix old new t) (sym (append-nil line)) a }

-- The items of a list in turn.
split_at : (items : List Item) (i : ℕ) (d : Item) → i < length items → items ≡ take i items ++ (get_or items i d ∷ drop (i + 1) items)
split_at items i d lt = sym (take-append-drop i items) ∙ ap (λ (r : List Item). take i items ++ r) (rw (add-one, drop-cons items i d) refl)

pub items_stop : (items : List Item) (i : ℕ) (x : Item) (old new : Option (List ℕ)) → HasPut (take i items) old new → HasBegun items old new
items_stop items i x old new p = subst (λ (xs : List Item). HasBegun xs old new) (take-append-drop i items) (put_begun (take i items) (drop i items) old new p)

pub items_line : (items : List Item) (i : ℕ) (x : Item) (line : List ℕ) (old middle new : Option (List ℕ)) → i < length items → x ≡ get_or items i x → HasPut (take i items) old middle → ItemText x line
    → Appends middle new line → HasPut (take (i + 1) items) old new
items_line items i x line old middle new lt e p h a =
    let next : take (i + 1) items ≡ take i items ++ x ∷ [] = take_more items i x lt ∙ ap (λ (y : Item). take i items ++ y ∷ []) (sym e) in
    subst (λ (xs : List Item). HasPut xs old new) (sym next) (more_put (take i items) (x ∷ []) old middle new p (line_put x line middle new h a))

pub items_broken : (items : List Item) (i : ℕ) (x : Item) (line : List ℕ) (old middle new : Option (List ℕ)) → i < length items → x ≡ get_or items i x → HasPut (take i items) old middle → ItemText x line
    → AppendsPrefix middle new line → HasBegun items old new
items_broken items i x line old middle new lt e p h a =
    let whole : take i items ++ (x ∷ [] ++ drop (i + 1) items) ≡ items = ap (λ (y : Item). take i items ++ (y ∷ drop (i + 1) items)) e ∙ sym (split_at items i x lt) in
    subst (λ (xs : List Item). HasBegun xs old new) whole (begun_more (take i items) (x ∷ []) (drop (i + 1) items) old middle new p (line_begun x line middle new h a))

-- The same as a loop over the items meets it.
pub begun_at : (items : List Item) (i : ℕ) (x : Item) (old middle new : Option (List ℕ)) → i < length items → x ≡ get_or items i x → HasPut (take i items) old middle
    → (line : List ℕ) × ItemText x line × AppendsPrefix middle new line → (text : List ℕ) × ItemsText items text × AppendsPrefix old new text
begun_at items i x old middle new lt e p h = let b = items_broken items i x h.0 old middle new lt e p h.1 h.2 in (b.text, b.lines, b.put)

pub put_at : (items : List Item) (i : ℕ) (x : Item) (old middle new : Option (List ℕ)) → i < length items → x ≡ get_or items i x → HasPut (take i items) old middle
    → (line : List ℕ) × ItemText x line × Appends middle new line → HasPut (take (i + 1) items) old new
put_at items i x old middle new lt e p h = items_line items i x h.0 old middle new lt e p h.1 h.2

pub whole_put : (items xs : List Item) (old new : Option (List ℕ)) → xs ≡ items → HasPut xs old new → (text : List ℕ) × ItemsText items text × Appends old new text
whole_put items xs old new e p = (p.text, subst (λ (ys : List Item). ItemsText ys p.text) e p.lines, p.put)

pub no_line : (x : Item) (old : Option (List ℕ)) → (line : List ℕ) × ItemText x line × AppendsPrefix old old line
no_line x old = let line = item_line x in (line.0, line.1, nothing_put old line.0)
