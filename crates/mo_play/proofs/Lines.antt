-- Every list of items has its lines.
use Rattle.std.proofs.Common.{◌≡◌, ℕ, zero, suc, ◌+◌, ◌/◌, ◌%◌, ◌≤◌, List, [], ◌∷◌, ◌++◌, codes, take, drop, length, refl, sym, ap, subst, ◌∙◌, arith, inl, inr, Option}
use Rattle.std.proofs.lemmas.List.{append_assoc, take-append-drop}
use Rattle.std.proofs.lemmas.Bool.{cases_lt}
use Rattle.std.proofs.Math.Seq.{take-append_seam}
use Rattle.std.proofs.KnownBytes.{Appends-nil, Appends-trans}
use Rattle.std.specs.Io.KnownBytes.{Appends}
use Rattle.outer.specs.Sinks.{AppendsPrefix}
use Rattle.play_script.proofs.Decimals.{decimal-digit, decimal-more}
use Rattle.play_script.specs.Numbers.{IsDecimal, bytes_text}
use Rattle.play_script.specs.Items.{line_of, trap_words, ItemText, ItemsText}
use Rattle.play_script.specs.declared.item.Item.{Item}
use Rattle.play_script.specs.declared.item.Item.TheVariants.{Installed, Upgraded, Print, Call, Replied, Rejected, Trapped, Ignored}

decimal_below : (k n : ℕ) → n ≤ k → (digits : List ℕ) × IsDecimal digits n
decimal_below zero n h = let none : n ≡ 0 = omega arith in subst (λ m. (digits : List ℕ) × IsDecimal digits m) (sym none) ((48 + 0) ∷ [], decimal-digit 0 (omega arith))
decimal_below (suc k) n h =
    elim (cases_lt n 10) [
      | inl low ↦ ((48 + n) ∷ [], decimal-digit n low)
      | inr high ↦ (let front = decimal_below k (n / 10) (omega arith) in (front.0 ++ (48 + n % 10) ∷ [], decimal-more front.0 n high front.1))
    ]

pub decimal_is : (n : ℕ) → (digits : List ℕ) × IsDecimal digits n
decimal_is n = decimal_below n n (omega arith)

pub item_line : (item : Item) → (line : List ℕ) × ItemText item line
item_line Installed = (line_of (codes "installed") [], refl)
item_line Upgraded = (line_of (codes "upgraded") [], refl)
item_line (Print bytes) = (line_of (codes "print") (bytes_text bytes ∷ []), refl)
item_line (Call number callee method bytes) =
    let d = decimal_is number in (line_of (codes "call") (d.0 ∷ bytes_text callee ∷ method ∷ bytes_text bytes ∷ []), (d.0, d.1, refl))
item_line (Replied number bytes) = let d = decimal_is number in (line_of (codes "replied") (d.0 ∷ bytes_text bytes ∷ []), (d.0, d.1, refl))
item_line (Rejected number code text) =
    let d = decimal_is number in let e = decimal_is code in (line_of (codes "rejected") (d.0 ∷ e.0 ∷ bytes_text text ∷ []), (d.0, d.1, e.0, e.1, refl))
item_line (Trapped word) = (line_of (codes "trapped") (trap_words word), refl)
item_line Ignored = (line_of (codes "ignored") [], refl)

pub items_lines : (items : List Item) → (text : List ℕ) × ItemsText items text
items_lines [] = ([], refl)
items_lines (item ∷ items) = let line = item_line item in let others = items_lines items in (line.0 ++ others.0, (line.0, others.0, line.1, others.1, refl))

pub items_append : (xs ys : List Item) (s t : List ℕ) → ItemsText xs s → ItemsText ys t → ItemsText (xs ++ ys) (s ++ t)
items_append [] ys s t h k = subst (λ (r : List ℕ). ItemsText ys (r ++ t)) (sym h) k
items_append (x ∷ xs) ys s t h k = (h.0, h.1 ++ t, h.2, items_append xs ys h.1 t h.3 k, ap (λ (r : List ℕ). r ++ t) h.4 ∙ append_assoc h.0 h.1 t)

pub item_alone : (x : Item) (line : List ℕ) → ItemText x line → ItemsText (x ∷ []) (line ++ [])
item_alone x line h = (line, [], h, refl, refl)

-- What stands behind the front of a text is a prefix of it.
pub front_put : (old new : Option (List ℕ)) (front rest whole : List ℕ) → whole ≡ front ++ rest → Appends old new front → AppendsPrefix old new whole
front_put old new front rest whole e a = (length front, subst (λ (t : List ℕ). Appends old new t) (sym (ap (λ (w : List ℕ). take (length front) w) e ∙ take-append_seam front rest)) a)

pub nothing_put : (old : Option (List ℕ)) (whole : List ℕ) → AppendsPrefix old old whole
nothing_put old whole = front_put old old [] whole whole refl (Appends-nil old)

-- A front was put, and then a prefix of the line behind it.
pub prefix_put : (old middle new : Option (List ℕ)) (front line rest : List ℕ) → Appends old middle front → AppendsPrefix middle new line → AppendsPrefix old new (front ++ (line ++ rest))
prefix_put old middle new front line rest a p =
    let whole : front ++ (line ++ rest) ≡ (front ++ take p.0 line) ++ (drop p.0 line ++ rest) =
    ap (λ (l : List ℕ). front ++ (l ++ rest)) (sym (take-append-drop p.0 line)) ∙ ap (λ (l : List ℕ). front ++ l) (append_assoc (take p.0 line) (drop p.0 line) rest)
    ∙ sym (append_assoc front (take p.0 line) (drop p.0 line ++ rest)) in
    front_put old new (front ++ take p.0 line) (drop p.0 line ++ rest) (front ++ (line ++ rest)) whole (Appends-trans old middle new front (take p.0 line) a p.1)
