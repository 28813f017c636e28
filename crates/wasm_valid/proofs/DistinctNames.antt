-- The names of exports that came, in a set.
use Rattle.std.proofs.Common.{◌≡◌, ◌≢◌, ℕ, ◌+◌, ◌<◌, ◌≤◌, List, [], length, get_or, map, refl, sym, ap, ◌∙◌, arith, Bool, true, false, inl, inr, ◌⊎◌, cond}
use Rattle.std.proofs.lemmas.List.{get_or-map, get_or_default, length-map}
use Rattle.std.specs.Prelude.{not}
use Rattle.std.specs.List.{AllPairs}
use Rattle.std.specs.Str.{bytes_eq}
use Rattle.wasm_tree.specs.declared.module_parts.ExportKind.TheVariants as export
use Rattle.wasm_tree.specs.declared.module_parts.Export.{Export}
use Rattle.wasm_valid.proofs.Answered.{name_eq, name_same}

-- Which names a set has, where it has those of the first exports, and these differ.
pub record Seen (has : List ℕ → Bool) (exports : List Export) (i : ℕ) : Type 0 where
  pub differ : (a b : ℕ) (d : Export) → a < b → b < i → (get_or exports a d).name ≢ (get_or exports b d).name
  pub among : (a : ℕ) (d : Export) → a < i → has (get_or exports a d).name ≡ true
  pub from : (q : List ℕ) → has q ≡ true → (a : ℕ) × (d : Export) × (a < i) × ((get_or exports a d).name ≡ q)

cond_true : (b e : Bool) → e ≡ true → cond b true e ≡ true
cond_true true e h = refl
cond_true false e h = h

cond_either : (b e : Bool) → cond b true e ≡ true → (b ≡ true) ⊎ (e ≡ true)
cond_either true e h = inl refl
cond_either false e h = inr h

pub seen_none : (has : List ℕ → Bool) (exports : List Export) → ((q : List ℕ) → has q ≡ false) → Seen has exports 0
seen_none has exports none = record {
  differ = λ a b d l m _. omega arith;
  among = λ a d l. absurd (omega arith);
  from = λ q h. absurd_of q (sym (none q) ∙ h);
}
  where
    absurd_of : (q : List ℕ) → false ≡ true → (a : ℕ) × (d : Export) × (a < 0) × ((get_or exports a d).name ≡ q)
    absurd_of q impossible = cc

module _ (has : List ℕ → Bool) (exports : List Export) (i : ℕ) (d : Export) (key : List ℕ) (within : i < length exports) (is : key ≡ (get_or exports i d).name) (seen : Seen has exports i) where
  own : (e : Export) (a : ℕ) → a ≡ i → (get_or exports a e).name ≡ key
  own e a same = ap (λ a. (get_or exports a e).name) same ∙ ap (λ (x : Export). x.name) (get_or_default exports i e d within) ∙ sym is

  pub seen_more : (new : List ℕ → Bool) → has key ≡ false → ((q : List ℕ) → new q ≡ cond (bytes_eq key q) true (has q)) → Seen new exports (i + 1)
  seen_more new absent updates = record {
    differ = λ a b e less under same. apart a b e less under same;
    among = λ a e under. there a e under;
    from = λ q h. back q (cond_either (bytes_eq key q) (has q) (sym (updates q) ∙ h));
  }
    where
      below : (b : ℕ) → b < i + 1 → (b < i) ⊎ (b ≡ i)
      below b h = nat_case b
        where
          nat_case : (b' : ℕ) → (b < i) ⊎ (b ≡ i)
          nat_case b' = grind arith

      apart : (a b : ℕ) (e : Export) → a < b → b < i + 1 → (get_or exports a e).name ≡ (get_or exports b e).name → ⊥
      apart a b e less under same =
          elim (below b under) [
            | inl h ↦ seen.differ a b e less h same
            | inr h ↦
                let before : a < i = omega arith in
                let x : has key ≡ true = sym (ap has (same ∙ own e b h)) ∙ seen.among a e before in
                cc
          ]

      there : (a : ℕ) (e : Export) → a < i + 1 → new (get_or exports a e).name ≡ true
      there a e under =
          elim (below a under) [
            | inl h ↦ updates (get_or exports a e).name ∙ cond_true (bytes_eq key (get_or exports a e).name) (has (get_or exports a e).name) (seen.among a e h)
            | inr h ↦ updates (get_or exports a e).name ∙ ap (λ b. cond b true (has (get_or exports a e).name)) (name_same key (get_or exports a e).name (sym (own e a h)))
          ]

      back : (q : List ℕ) → (bytes_eq key q ≡ true) ⊎ (has q ≡ true) → (a : ℕ) × (e : Export) × (a < i + 1) × ((get_or exports a e).name ≡ q)
      back q (inl h) = (i, d, omega arith, sym is ∙ name_eq key q h)
      back q (inr h) = let w = seen.from q h in (w.0, w.1, omega (arith, w.2), w.3)

  pub seen_twice : has key ≡ true → AllPairs (λ a b. a ≢ b) (map (λ e. e.name) exports) → ⊥
  seen_twice there differ =
      let w = seen.from key there in
      let less : w.0 < i = w.2 in
      differ w.0 i key less (omega (arith, length-map exports (λ e. e.name)))
      (get_or-map (λ (e : Export). e.name) exports w.0 w.1 key (omega arith) ∙ w.3 ∙ is ∙ sym (get_or-map (λ (e : Export). e.name) exports i d key within))

pub seen_all : (has : List ℕ → Bool) (exports : List Export) (i : ℕ) → length exports ≤ i → Seen has exports i → AllPairs (λ a b. a ≢ b) (map (λ e. e.name) exports)
seen_all has exports i all seen = λ a b d less under same.
    let d' : Export = record { name = []; kind = export.Function 0 } in
    let within : b < length exports = omega (arith, length-map exports (λ e. e.name)) in
    seen.differ a b d' less (omega arith)
    (sym (get_or-map (λ (e : Export). e.name) exports a d' d (omega arith)) ∙ same ∙ get_or-map (λ (e : Export). e.name) exports b d' d within)

pub was_there : (b added : Bool) → added ≡ not b → added ≡ false → b ≡ true
was_there true added e h = refl
was_there false added e h = cc

pub was_absent : (b added : Bool) → added ≡ not b → added ≡ true → b ≡ false
was_absent true added e h = cc
was_absent false added e h = refl
