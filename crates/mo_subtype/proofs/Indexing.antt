-- What an index of fields keeps as one more is put there.
use Rattle.std.proofs.Common.{◌≡◌, ℕ, Bool, true, false, List, Option, Some, cond, refl, ap, ◌∙◌}
use Rattle.std.specs.Borrow.{Bor}
use Rattle.std.specs.Option.{option_map}
use Rattle.std.specs.Str.{bytes_eq}
use Rattle.mo_types.specs.declared.node.Field.{Field}
use Rattle.mo_types.specs.declared.node.TypeId.{TypeId}

-- what is found once a field is kept under a key
pub kept : (key label x : List ℕ) (v : Bor (Field TypeId)) (new old : Option (Bor (Field TypeId))) → key ≡ label → new ≡ cond (bytes_eq key x) (Some v) old
    → option_map (λ f. f.now) new ≡ cond (bytes_eq label x) (Some v.now) (option_map (λ f. f.now) old)
kept key label x v new old e h = ap (option_map (λ f. f.now)) h ∙ by (bytes_eq key x) ∙ ap (λ l. cond (bytes_eq l x) (Some v.now) (option_map (λ f. f.now) old)) e where
  by : (b : Bool) → option_map (λ (f : Bor (Field TypeId)). f.now) (cond b (Some v) old) ≡ cond b (Some v.now) (option_map (λ f. f.now) old)
  by true = refl
  by false = refl
