-- Where texts are found among their entries.
use Rattle.std.proofs.Common.{◌≡◌, ℕ, ◌+◌, List, [], ◌∷◌, ◌++◌, map, Bool, true, false, cond, if◌then◌else◌, Option, Some, None, is_some, unwrap_or, refl, sym, ap, subst, ◌∙◌}
use Rattle.std.specs.Prelude.{◌||◌}
use Rattle.std.specs.Str.{bytes_eq}
use Rattle.std.specs.Map.{lookup}
use Rattle.indexmap.specs.IndexMap.{insert_entry}
use Rattle.heap_layout.specs.Blocks.{text_words}
use Rattle.low_emit.specs.Texts.{is_among, place_from, with_text, words_from}
use Rattle.text_table.specs.Placed.{ArePlaced}

module _ {K : Type 0} (f : K → List ℕ) where
  abbrev pub keys_of : List (K × ℕ) → List (List ℕ)
  keys_of es = map (λ e. f e.0) es

  abbrev pub seen_as : List (K × ℕ) → List (List ℕ × ℕ)
  seen_as es = map (λ e. (f e.0, e.1)) es

  pub ends : (es : List (K × ℕ)) (i last : ℕ) → ArePlaced i (seen_as es) last → last ≡ words_from i (keys_of es)
  ends [] i last h = sym h
  ends (e ∷ es) i last h = ends es (i + text_words (f e.0)) last h.1

  pub found : (t : List ℕ) (es : List (K × ℕ)) (i last : ℕ) → ArePlaced i (seen_as es) last → unwrap_or (lookup (λ a. bytes_eq t (f a)) es) 0 ≡ place_from i t (keys_of es)
  found t [] i last h = refl
  found t (e ∷ es) i last h = by (bytes_eq t (f e.0)) h.0 (found t es (i + text_words (f e.0)) last h.1)
    where
      by : (b : Bool) → e.1 ≡ i → unwrap_or (lookup (λ a. bytes_eq t (f a)) es) 0 ≡ place_from (i + text_words (f e.0)) t (keys_of es)
          → unwrap_or (cond b (Some e.1) (lookup (λ a. bytes_eq t (f a)) es)) 0 ≡ cond b i (place_from (i + text_words (f e.0)) t (keys_of es))
      by true h r = h
      by false h r = r

  pub among : (t : List ℕ) (es : List (K × ℕ)) → is_some (lookup (λ a. bytes_eq t (f a)) es) ≡ is_among t (keys_of es)
  among t [] = refl
  among t (e ∷ es) = by (bytes_eq t (f e.0)) (among t es)
    where
      by : (b : Bool) → is_some (lookup (λ a. bytes_eq t (f a)) es) ≡ is_among t (keys_of es)
          → is_some (cond b (Some e.1) (lookup (λ a. bytes_eq t (f a)) es)) ≡ (b || is_among t (keys_of es))
      by true r = refl
      by false r = r

  pub stays : (t : List ℕ) (es : List (K × ℕ)) → is_some (lookup (λ a. bytes_eq t (f a)) es) ≡ true → keys_of es ≡ with_text t (keys_of es)
  stays t es h = ap (λ b. cond b (keys_of es) (keys_of es ++ t ∷ [])) (sym h ∙ among t es)

  new_last : (t : List ℕ) (es : List (K × ℕ)) (k : K) (v : ℕ) → f k ≡ t → is_among t (keys_of es) ≡ false → insert_entry (λ a b. bytes_eq (f a) (f b)) es k v ≡ es ++ (k, v) ∷ []
  new_last t [] k v e h = refl
  new_last t (x ∷ es) k v e h = by (bytes_eq (f k) (f x.0)) (ap (λ u. bytes_eq u (f x.0)) e) h (new_last t es k v e)
    where
      by : (b : Bool) → b ≡ bytes_eq t (f x.0) → (bytes_eq t (f x.0) || is_among t (keys_of es)) ≡ false
          → (is_among t (keys_of es) ≡ false → insert_entry (λ a b. bytes_eq (f a) (f b)) es k v ≡ es ++ (k, v) ∷ [])
          → (if b then (x.0, v) ∷ es else x ∷ insert_entry (λ a b. bytes_eq (f a) (f b)) es k v) ≡ x ∷ (es ++ (k, v) ∷ [])
      by true e h r = absurd (let z : true ≡ false = ap (λ b. b || is_among t (keys_of es)) e ∙ h in cc)
      by false e h r = ap (λ l. x ∷ l) (r (ap (λ b. b || is_among t (keys_of es)) e ∙ h))

  -- a new text goes last
  pub inserted : (t : List ℕ) (es : List (K × ℕ)) (k : K) (v : ℕ) → f k ≡ t → is_some (lookup (λ a. bytes_eq t (f a)) es) ≡ false → insert_entry (λ a b. bytes_eq (f a) (f b)) es k v ≡ es ++ (k, v) ∷ []
  inserted t es k v e h = new_last t es k v e (sym (among t es) ∙ h)

  keys_more : (es : List (K × ℕ)) (k : K) (v : ℕ) → keys_of (es ++ (k, v) ∷ []) ≡ keys_of es ++ f k ∷ []
  keys_more [] k v = refl
  keys_more (e ∷ es) k v = ap (λ l. f e.0 ∷ l) (keys_more es k v)

  pub grown : (t : List ℕ) (es : List (K × ℕ)) (k : K) (v : ℕ) → f k ≡ t → is_some (lookup (λ a. bytes_eq t (f a)) es) ≡ false → keys_of (insert_entry (λ a b. bytes_eq (f a) (f b)) es k v) ≡ with_text t (keys_of es)
  grown t es k v e h =
      ap keys_of (inserted t es k v e h) ∙ keys_more es k v ∙ ap (λ u. keys_of es ++ u ∷ []) e
      ∙ ap (λ b. cond b (keys_of es) (keys_of es ++ t ∷ [])) (sym h ∙ among t es)

  last_placed : (es : List (K × ℕ)) (k : K) (i last : ℕ) → ArePlaced i (seen_as es) last → ArePlaced i (seen_as (es ++ (k, last) ∷ [])) (last + text_words (f k))
  last_placed [] k i last h = (sym h, ap (λ n. n + text_words (f k)) h)
  last_placed (e ∷ es) k i last h = (h.0, last_placed es k (i + text_words (f e.0)) last h.1)

  pub placed : (t : List ℕ) (es : List (K × ℕ)) (k : K) (last end : ℕ) → f k ≡ t → is_some (lookup (λ a. bytes_eq t (f a)) es) ≡ false → ArePlaced 1 (seen_as es) last → end ≡ last + text_words t
      → ArePlaced 1 (seen_as (insert_entry (λ a b. bytes_eq (f a) (f b)) es k last)) end
  placed t es k last end e h p z =
      subst (λ l. ArePlaced 1 (seen_as l) end) (sym (inserted t es k last e h))
      (subst (λ n. ArePlaced 1 (seen_as (es ++ (k, last) ∷ [])) n) (sym (z ∙ ap (λ u. last + text_words u) (sym e))) (last_placed es k 1 last p))
