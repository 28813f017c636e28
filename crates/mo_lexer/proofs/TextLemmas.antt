-- Texts: what the code finds is one, and there is only one.
use Rattle.std.proofs.Common.{◌≡◌, ℕ, ◌+◌, ◌-◌, ◌<◌, ◌≤◌, Bool, true, false, List, [], ◌∷◌, ◌++◌, length, take, drop, get_or, refl, sym, ap, ◌∙◌, subst, arith, inl, append_assoc, take-append-drop, length-append}
use Rattle.std.specs.Prelude.{if◌then◌else◌, ◌==◌, ◌||◌, not}
use Rattle.std.specs.List.{flat_map}
use Rattle.std.proofs.lemmas.Bool.{eqb-true}
use Rattle.std.proofs.lemmas.List.{append-nil, drop_all, length-take-le}
use Rattle.mo_syntax.specs.Lexed.{Item, plain, escape, is_plain, item_text, item_bytes, IsItem, AreItems, IsText, IsEscape, Escaped, character, byte}
use Rattle.mo_lexer.specs.declared.escape.Escape.{Escape}
use Rattle.mo_lexer.specs.declared.escape.Escape.TheVariants as esc
use Rattle.mo_lexer.specs.declared.stop.Stop.{Stop}
use Rattle.mo_lexer.specs.declared.stop.Stop.TheVariants as stop
use Rattle.mo_lexer.specs.Faults.{OpensText, MeetsAt, EndsAt}
use Rattle.mo_lexer.specs.Found.{AppendsEscape, EscapeStops, StopsAt}
use Rattle.mo_lexer.specs.Reading.{escape_at}
use Rattle.mo_lexer.proofs.EscapeLemmas.{shown, escape_only, take_seam, drop_seam}
use Rattle.mo_lexer.proofs.Tools.{head_at, slice_rest, true_is_not_false, if_true, tested}

-- the items up to the place, and what they stand for
pub record ReadSoFar (source : List ℕ) (at : ℕ) (bytes : List ℕ) : Type 0 where
  pub items : List Item
  pub good : AreItems items
  pub opened : source ≡ 34 ∷ flat_map item_text items ++ drop at source
  pub value : bytes ≡ flat_map item_bytes items
  pub at_is : at ≡ 1 + length (flat_map item_text items)
  pub within : at ≤ length source

pub read_none : (source : List ℕ) → get_or source 0 0 ≡ 34 → 0 < length source → ReadSoFar source 1 []
read_none [] h some = absurd (omega arith)
read_none (b ∷ source) h some = record { items = []; good = tt; opened = ap (λ x. x ∷ source) h; value = refl; at_is = refl; within = omega arith }

flat_push : (f : Item → List ℕ) (items : List Item) (item : Item) → flat_map f (items ++ item ∷ []) ≡ flat_map f items ++ f item
flat_push f [] item = append-nil (f item)
flat_push f (x ∷ items) item = ap (λ l. f x ++ l) (flat_push f items item) ∙ sym (append_assoc (f x) (flat_map f items) (f item))

items_push : (items : List Item) (item : Item) → AreItems items → IsItem item → AreItems (items ++ item ∷ [])
items_push [] item all good = (good, tt)
items_push (x ∷ items) item all good = (all.0, items_push items item all.1 good)

-- one more item
read_item : (source : List ℕ) (at : ℕ) (bytes : List ℕ) (item : Item) (rest : List ℕ) → ReadSoFar source at bytes → IsItem item → drop at source ≡ item_text item ++ rest →
    ReadSoFar source (at + length (item_text item)) (bytes ++ item_bytes item)
read_item source at bytes item rest r good e =
    let texts : flat_map item_text (r.items ++ item ∷ []) ≡ flat_map item_text r.items ++ item_text item = flat_push item_text r.items item in
    let values : flat_map item_bytes (r.items ++ item ∷ []) ≡ flat_map item_bytes r.items ++ item_bytes item = flat_push item_bytes r.items item in
    let whole : source ≡ (34 ∷ flat_map item_text (r.items ++ item ∷ [])) ++ rest =
    r.opened ∙ ap (λ l. 34 ∷ flat_map item_text r.items ++ l) e ∙ ap (λ l. 34 ∷ l) (sym (append_assoc (flat_map item_text r.items) (item_text item) rest)) ∙ ap (λ l. 34 ∷ l ++ rest) (sym texts) in
    let size : length (flat_map item_text (r.items ++ item ∷ [])) ≡ length (flat_map item_text r.items) + length (item_text item) = ap length texts ∙ length-append (flat_map item_text r.items) (item_text item) in
    let at_new : at + length (item_text item) ≡ 1 + length (flat_map item_text (r.items ++ item ∷ [])) = omega (arith, r.at_is) in
    let at_cut : at + length (item_text item) ≡ length (34 ∷ flat_map item_text (r.items ++ item ∷ [])) = omega arith in
    let cut : drop (at + length (item_text item)) source ≡ rest = drop_seam (34 ∷ flat_map item_text (r.items ++ item ∷ [])) rest source (at + length (item_text item)) whole at_cut in
    let long : length source ≡ length (34 ∷ flat_map item_text (r.items ++ item ∷ [])) + length rest = ap length whole ∙ length-append (34 ∷ flat_map item_text (r.items ++ item ∷ [])) rest in
    record {
      items = r.items ++ item ∷ [];
      good = items_push r.items item r.good good;
      opened = whole ∙ ap (λ l. 34 ∷ flat_map item_text (r.items ++ item ∷ []) ++ l) (sym cut);
      value = ap (λ l. l ++ item_bytes item) r.value ∙ sym values;
      at_is = at_new;
      within = omega arith;
    }

is_plain_byte : (b : ℕ) → (b ≡ 34 → ⊥) → (b ≡ 10 → ⊥) → (b ≡ 92 → ⊥) → is_plain b ≡ true
is_plain_byte b q n s =
    let other : (k : ℕ) → (b ≡ k → ⊥) → (b == k) ≡ false = λ k h. tested (b == k) (λ same. absurd (h (eqb-true b k same))) (λ differs. differs) in
    ap (λ t. not (t || (b == 92 || b == 10))) (other 34 q) ∙ ap (λ t. not (t || b == 10)) (other 92 s) ∙ ap not (other 10 n)

pub read_plain : (source : List ℕ) (at : ℕ) (bytes : List ℕ) → ReadSoFar source at bytes → at < length source → (get_or source at 0 ≡ 34 → ⊥) → (get_or source at 0 ≡ 10 → ⊥) → (get_or source at 0 ≡ 92 → ⊥) →
    ReadSoFar source (at + 1) (bytes ++ get_or source at 0 ∷ [])
read_plain source at bytes r h q n s = read_item source at bytes (plain (get_or source at 0)) (drop (at + 1) source) r (is_plain_byte (get_or source at 0) q n s) (head_at at source h)

pub read_escape : (source : List ℕ) (at len : ℕ) (bytes new : List ℕ) → ReadSoFar source at bytes → at < length source → get_or source at 0 ≡ 92 → AppendsEscape (take (length source - (at + 1)) (drop (at + 1) source)) bytes new len →
    ReadSoFar source (at + (1 + len)) new
read_escape source at len bytes new r h b a =
    let rest : List ℕ = drop (at + 1) source in
    let same : take (length source - (at + 1)) (drop (at + 1) source) ≡ rest = slice_rest (at + 1) source in
    let fits : len ≤ length rest = omega (arith, a.within, ap length same) in
    let good : IsEscape (take len rest) a.escaped = subst (λ l. IsEscape (take len l) a.escaped) same a.is_escape in
    let e : drop at source ≡ (92 ∷ take len rest) ++ drop len rest = head_at at source h ∙ ap (λ x. x ∷ rest) b ∙ ap (λ l. 92 ∷ l) (sym (take-append-drop len rest)) in
    let size : length (take len rest) ≡ len = length-take-le len rest fits in
    let place : at + length (92 ∷ take len rest) ≡ at + (1 + len) = omega arith in
    subst (λ k. ReadSoFar source k new) place
    (subst (ReadSoFar source (at + length (92 ∷ take len rest))) (sym a.added) (read_item source at bytes (escape (take len rest) a.escaped) (drop len rest) r good e))

pub read_whole : (source : List ℕ) (at : ℕ) (bytes : List ℕ) → ReadSoFar source at bytes → at < length source → get_or source at 0 ≡ 34 → IsText (take (at + 1) source) bytes
read_whole source at bytes r h b =
    let e : drop at source ≡ 34 ∷ drop (at + 1) source = head_at at source h ∙ ap (λ x. x ∷ drop (at + 1) source) b in
    let text : List ℕ = 34 ∷ flat_map item_text r.items ++ 34 ∷ [] in
    let whole : source ≡ text ++ drop (at + 1) source = r.opened ∙ ap (λ l. 34 ∷ flat_map item_text r.items ++ l) e ∙ ap (λ l. 34 ∷ l) (sym (append_assoc (flat_map item_text r.items) (34 ∷ []) (drop (at + 1) source))) in
    let size : length (flat_map item_text r.items ++ 34 ∷ []) ≡ length (flat_map item_text r.items) + 1 = length-append (flat_map item_text r.items) (34 ∷ []) in
    let long : at + 1 ≡ length text = omega (arith, r.at_is) in
    (r.items, take_seam text (drop (at + 1) source) source (at + 1) whole long, r.value, r.good)

-- the items, in front of what stands at the place
pub read_opens : (source : List ℕ) (at : ℕ) (bytes : List ℕ) (r : ReadSoFar source at bytes) (rest : List ℕ) → drop at source ≡ rest → OpensText source r.items rest
read_opens source at bytes r rest e = (r.opened ∙ ap (λ l. 34 ∷ flat_map item_text r.items ++ l) e, r.good)

pub byte_opens : (source : List ℕ) (at : ℕ) (bytes : List ℕ) (r : ReadSoFar source at bytes) (b : ℕ) → at < length source → get_or source at 0 ≡ b → OpensText source r.items (b ∷ drop (at + 1) source)
byte_opens source at bytes r b h e = read_opens source at bytes r (b ∷ drop (at + 1) source) (head_at at source h ∙ ap (λ x. x ∷ drop (at + 1) source) e)

pub end_opens : (source : List ℕ) (at : ℕ) (bytes : List ℕ) (r : ReadSoFar source at bytes) → length source ≤ at → OpensText source r.items []
end_opens source at bytes r h = read_opens source at bytes r [] (drop_all at source h)

pub escape_stops : (place at : ℕ) (source bytes : List ℕ) (s : Stop) → ReadSoFar source at bytes → at < length source → get_or source at 0 ≡ 92 → EscapeStops (place + at) (take (length source - (at + 1)) (drop (at + 1) source)) s →
    StopsAt place source s
escape_stops place at source bytes (stop.Met fault) r h b (f, bad) =
    let size : place + at ≡ place + 1 + length (flat_map item_text r.items) = omega (arith, r.at_is) in
    subst (MeetsAt place source) (sym f) (inl (r.items, drop (at + 1) source, byte_opens source at bytes r 92 h b, size, ap (escape_at true) (sym (slice_rest (at + 1) source)) ∙ bad))
escape_stops place at source bytes (stop.AtEnd fault) r h b (f, ends) =
    let size : place + at ≡ place + 1 + length (flat_map item_text r.items) = omega (arith, r.at_is) in
    subst (EndsAt place source) (sym f) (inl (r.items, drop (at + 1) source, byte_opens source at bytes r 92 h b, size, ap (escape_at true) (sym (slice_rest (at + 1) source)) ∙ ends))
escape_stops place at source bytes stop.Memory r h b e = tt

-- ---- there is only one

no_escape : Escape → Bool
no_escape (esc.Scalar c len) = false
no_escape (esc.Byte b len) = false
no_escape esc.Bad = true
no_escape esc.Ends = true

-- no item begins here
pub stops : List ℕ → Bool
stops [] = true
stops (b ∷ text) = if is_plain b then false else (if b == 92 then no_escape (escape_at true text) else true)

no_escape_shown : (value : Escaped) (len : ℕ) → no_escape (shown value len) ≡ false
unfolding no_escape
no_escape_shown (character c) len = refl
no_escape_shown (byte b) len = refl

item_goes_on : (item : Item) (rest : List ℕ) → IsItem item → stops (item_text item ++ rest) ≡ false
unfolding stops
item_goes_on (plain b) rest h = if_true (is_plain b) false (if b == 92 then no_escape (escape_at true rest) else true) h
item_goes_on (escape text value) rest h = ap no_escape (escape_only text rest value h) ∙ no_escape_shown value (length text)

shown_same : (v w : Escaped) (m n : ℕ) → shown v m ≡ shown w n → (v ≡ w) × (m ≡ n)
shown_same (character c) (character d) m n h = (cc, cc)
shown_same (byte c) (byte d) m n h = (cc, cc)
shown_same (character c) (byte d) m n h = absurd (cc)
shown_same (byte c) (character d) m n h = absurd (cc)

pub same_split : (xs ys r s : List ℕ) → xs ++ r ≡ ys ++ s → length xs ≡ length ys → (xs ≡ ys) × (r ≡ s)
same_split xs ys r s e n = (
  sym (take_seam xs r (ys ++ s) (length ys) (sym e) (sym n)) ∙ take_seam ys s (ys ++ s) (length ys) refl refl,
  sym (drop_seam xs r (ys ++ s) (length ys) (sym e) (sym n)) ∙ drop_seam ys s (ys ++ s) (length ys) refl refl,
)

tail_same : (x y : ℕ) (xs ys : List ℕ) → x ∷ xs ≡ y ∷ ys → (x ≡ y) × (xs ≡ ys)
tail_same x y xs ys h = (cc, cc)

item_same : (x y : Item) (r s : List ℕ) → IsItem x → IsItem y → item_text x ++ r ≡ item_text y ++ s → (x ≡ y) × (r ≡ s)
item_same (plain b) (plain c) r s g h e = let t = tail_same b c r s e in (ap plain t.0, t.1)
item_same (plain b) (escape text value) r s g h e = let t = tail_same b 92 r (text ++ s) e in true_is_not_false (sym (ap is_plain t.0) ∙ g) refl
item_same (escape text value) (plain c) r s g h e = let t = tail_same 92 c (text ++ r) s e in true_is_not_false (ap is_plain t.0 ∙ h) refl
item_same (escape text value) (escape other worth) r s g h e =
    let t = tail_same 92 92 (text ++ r) (other ++ s) e in
    let one = shown_same value worth (length text) (length other) (sym (escape_only text r value g) ∙ ap (escape_at true) t.1 ∙ escape_only other s worth h) in
    let parts = same_split text other r s t.1 one.1 in
    (ap (λ l. escape l value) parts.0 ∙ ap (escape other) one.0, parts.1)

-- two readings of items that stop are one
pub items_same : (xs ys : List Item) (r s : List ℕ) → AreItems xs → AreItems ys → stops r ≡ true → stops s ≡ true → flat_map item_text xs ++ r ≡ flat_map item_text ys ++ s → (xs ≡ ys) × (r ≡ s)
items_same [] [] r s g h p q e = (refl, e)
items_same [] (y ∷ ys) r s g h p q e =
    true_is_not_false p (ap stops (e ∙ append_assoc (item_text y) (flat_map item_text ys) s) ∙ item_goes_on y (flat_map item_text ys ++ s) h.0)
items_same (x ∷ xs) [] r s g h p q e =
    true_is_not_false q (ap stops (sym e ∙ append_assoc (item_text x) (flat_map item_text xs) r) ∙ item_goes_on x (flat_map item_text xs ++ r) g.0)
items_same (x ∷ xs) (y ∷ ys) r s g h p q e =
    let one = item_same x y (flat_map item_text xs ++ r) (flat_map item_text ys ++ s) g.0 h.0 (sym (append_assoc (item_text x) (flat_map item_text xs) r) ∙ e ∙ append_assoc (item_text y) (flat_map item_text ys) s) in
    let more = items_same xs ys r s g.1 h.1 p q one.1 in
    (ap (λ l. x ∷ l) more.0 ∙ ap (λ z. z ∷ ys) one.0, more.1)

pub opens_same : (text : List ℕ) (xs ys : List Item) (r s : List ℕ) → OpensText text xs r → OpensText text ys s → stops r ≡ true → stops s ≡ true → (xs ≡ ys) × (r ≡ s)
opens_same text xs ys r s g h p q = items_same xs ys r s g.1 h.1 p q (tail_same 34 34 (flat_map item_text xs ++ r) (flat_map item_text ys ++ s) (sym g.0 ∙ h.0)).1

pub stops_nil : stops [] ≡ true
unfolding stops
stops_nil = refl

pub stops_quote : (rest : List ℕ) → stops (34 ∷ rest) ≡ true
unfolding stops
stops_quote rest = refl

pub stops_newline : (rest : List ℕ) → stops (10 ∷ rest) ≡ true
unfolding stops
stops_newline rest = refl

pub stops_bad : (rest : List ℕ) → escape_at true rest ≡ esc.Bad → stops (92 ∷ rest) ≡ true
unfolding stops no_escape
stops_bad rest h = ap no_escape h

pub stops_ends : (rest : List ℕ) → escape_at true rest ≡ esc.Ends → stops (92 ∷ rest) ≡ true
unfolding stops no_escape
stops_ends rest h = ap no_escape h
