-- Which parts are the same.
use Rattle.std.proofs.Common.{◌≡◌, ℕ, Bool, true, false, ◌&&◌, List, Decides, refl, ap, ◌∙◌, ℤ}
use Rattle.std.specs.Str.{bytes_eq}
use Rattle.std.specs.Cmp.{unsigned_Decides}
use Rattle.std.proofs.lemmas.Bool.{and_from}
use Rattle.std.proofs.lemmas.Bool.Decides.{Decides-int_eq}
use Rattle.std.proofs.lemmas.Slice.Eq.{bytes_eq-Decides}
use Rattle.mo_types.specs.declared.datum.Datum.{Datum}
use Rattle.mo_types.specs.declared.datum.Datum.TheVariants as part
use Rattle.mo_values.specs.Parts.{same_flag, same_part}

pub both : (a b : Bool) → (a && b) ≡ true → (a ≡ true) × (b ≡ true)
both true true e = (refl, refl)
both true false e = cc
both false b e = cc

flag_decides : (a b : Bool) → Decides (same_flag a b) (a ≡ b)
flag_decides true true = (λ e. refl, λ e. refl)
flag_decides true false = (λ e. cc, λ e. cc)
flag_decides false true = (λ e. cc, λ e. cc)
flag_decides false false = (λ e. refl, λ e. refl)

part_decides : (p q : Datum) → Decides (same_part p q) (p ≡ q)
part_decides part.Null part.Null = (λ e. refl, λ e. refl)
part_decides part.Present part.Present = (λ e. refl, λ e. refl)
part_decides (part.Flag a) (part.Flag b) = let d = flag_decides a b in (λ e. ap (λ (x : Bool). part.Flag x) (d.0 e), λ e. d.1 (let f : a ≡ b = cc in f))
part_decides (part.Number a) (part.Number b) = let d = Decides-int_eq a b in (λ e. ap (λ (x : ℤ). part.Number x) (d.0 e), λ e. d.1 (let f : a ≡ b = cc in f))
part_decides (part.Char a) (part.Char b) = let d = unsigned_Decides a b in (λ e. ap (λ (x : ℕ). part.Char x) (d.0 e), λ e. d.1 (let f : a ≡ b = cc in f))
part_decides (part.Text a) (part.Text b) = let d = bytes_eq-Decides a b in (λ e. ap (λ (x : List ℕ). part.Text x) (d.0 e), λ e. d.1 (let f : a ≡ b = cc in f))
part_decides (part.Blob a) (part.Blob b) = let d = bytes_eq-Decides a b in (λ e. ap (λ (x : List ℕ). part.Blob x) (d.0 e), λ e. d.1 (let f : a ≡ b = cc in f))
part_decides (part.Principal a) (part.Principal b) = let d = bytes_eq-Decides a b in (λ e. ap (λ (x : List ℕ). part.Principal x) (d.0 e), λ e. d.1 (let f : a ≡ b = cc in f))
part_decides (part.Actor a) (part.Actor b) = let d = bytes_eq-Decides a b in (λ e. ap (λ (x : List ℕ). part.Actor x) (d.0 e), λ e. d.1 (let f : a ≡ b = cc in f))
part_decides (part.Many a) (part.Many b) = let d = unsigned_Decides a b in (λ e. ap (λ (x : ℕ). part.Many x) (d.0 e), λ e. d.1 (let f : a ≡ b = cc in f))
part_decides (part.Record a) (part.Record b) = let d = unsigned_Decides a b in (λ e. ap (λ (x : ℕ). part.Record x) (d.0 e), λ e. d.1 (let f : a ≡ b = cc in f))
part_decides (part.Tag a) (part.Tag b) = let d = unsigned_Decides a b in (λ e. ap (λ (x : ℕ). part.Tag x) (d.0 e), λ e. d.1 (let f : a ≡ b = cc in f))
part_decides (part.Method a m) (part.Method b n) =
    let d = bytes_eq-Decides a b in
    let k = bytes_eq-Decides m n in (
      λ e. let t = both (bytes_eq a b) (bytes_eq m n) e in ap (λ (x : List ℕ). part.Method x m) (d.0 t.0) ∙ ap (λ (x : List ℕ). part.Method b x) (k.0 t.1),
      λ e. and_from (bytes_eq a b) (bytes_eq m n) (d.1 (let f : a ≡ b = cc in f)) (k.1 (let f : m ≡ n = cc in f)),
    )
part_decides p q = (λ e. cc, λ e. cc)

pub part_same : (p q : Datum) → same_part p q ≡ true → p ≡ q
part_same p q e = (part_decides p q).0 e

pub part_self : (p : Datum) → same_part p p ≡ true
part_self p = (part_decides p p).1 refl
