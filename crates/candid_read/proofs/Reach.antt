-- How reading goes on.
use Rattle.std.proofs.Common.{◌≡◌, ℕ, zero, suc, List, [], ◌∷◌, ◌++◌, Some, slice_get, Ok, Err, refl, sym, subst}
use Rattle.mo_types.specs.declared.datum.Datum.{Datum}
use Rattle.mo_types.specs.Values.{copies}
use Rattle.candid_header.specs.declared.fault.Fault.{Fault}
use Rattle.exact_reading.specs.declared.stop.Stop.{Stop}
use Rattle.exact_reading.specs.declared.stop.Stop.TheVariants as stop
use Rattle.candid_header.specs.Reading.{Reading}
use Rattle.candid_read.specs.Whole.{Reaches, Passes, Stops, IfFault}

module _ {B : Type 0} (part_of : B → Reading Datum) (inside : B → Datum → List B) where
  abbrev Goes : List B → List Datum → List ℕ → List B → List ℕ → Type 0
  Goes ts ps bytes todo rest = Reaches part_of inside ts ps bytes todo rest

  reaches_none : (ts : List B) (bytes : List ℕ) → Goes ts [] bytes ts bytes
  reaches_none [] bytes = (refl, refl)
  reaches_none (t ∷ ts) bytes = (refl, refl)

  reaches_one : (ts : List B) (bytes after : List ℕ) (t : B) (p : Datum) → part_of t bytes ≡ Ok (p, after) → Goes (t ∷ ts) (p ∷ []) bytes (inside t p ++ ts) after
  reaches_one ts bytes after t p h = (after, h, reaches_none (inside t p ++ ts) after)

  pub reaches_then : (ts : List B) (ps qs : List Datum) (bytes : List ℕ) (mid : List B) (between : List ℕ) (todo : List B) (rest : List ℕ) → Goes ts ps bytes mid between → Goes mid qs between todo rest → Goes ts (ps ++ qs) bytes todo rest
  reaches_then [] [] qs bytes mid between todo rest r s = subst (λ (x : List B). Goes x qs bytes todo rest) (sym r.0) (subst (λ (x : List ℕ). Goes mid qs x todo rest) (sym r.1) s)
  reaches_then (t ∷ ts) [] qs bytes mid between todo rest r s = subst (λ (x : List B). Goes x qs bytes todo rest) (sym r.0) (subst (λ (x : List ℕ). Goes mid qs x todo rest) (sym r.1) s)
  reaches_then [] (p ∷ ps) qs bytes mid between todo rest r s = absurd r
  reaches_then (t ∷ ts) (p ∷ ps) qs bytes mid between todo rest r s = (r.0, r.1, reaches_then (inside t p ++ ts) ps qs r.0 mid between todo rest r.2 s)

  -- one turn of the loop, over what waits
  pub turns : (ts : List B) (ps more : List Datum) (bytes rest after : List ℕ) (old mid new : List B) (t : B) (p : Datum)
      → Goes ts ps bytes old rest → old ≡ t ∷ mid → part_of t rest ≡ Ok (p, after) → new ≡ inside t p ++ mid → more ≡ ps ++ p ∷ [] → Goes ts more bytes new after
  turns ts ps more bytes rest after old mid new t p r e h n k =
      let first = subst (λ (x : List B). Goes ts ps bytes x rest) e r in
      let second = subst (λ (x : List B). Goes (t ∷ mid) (p ∷ []) rest x after) (sym n) (reaches_one mid rest after t p h) in
      subst (λ (x : List Datum). Goes ts x bytes new after) (sym k) (reaches_then ts ps (p ∷ []) bytes (t ∷ mid) rest new after first second)

  -- ---- parts that are not kept

  abbrev Over : List B → List ℕ → List B → List ℕ → Type 0
  Over ts bytes todo rest = Passes part_of inside ts bytes todo rest

  pub over_none : (ts todo : List B) (bytes : List ℕ) → todo ≡ ts → Over ts bytes todo bytes
  over_none ts todo bytes e = record { parts = []; reached = subst (λ (x : List B). Goes ts [] bytes x bytes) (sym e) (reaches_none ts bytes) }

  pub over_one : (ts todo : List B) (bytes rest : List ℕ) (t : B) (p : Datum) → part_of t bytes ≡ Ok (p, rest) → todo ≡ inside t p ++ ts → Over (t ∷ ts) bytes todo rest
  over_one ts todo bytes rest t p h e = record { parts = p ∷ []; reached = subst (λ (x : List B). Goes (t ∷ ts) (p ∷ []) bytes x rest) (sym e) (reaches_one ts bytes rest t p h) }

  pub over_then : (ts mid todo : List B) (bytes between rest : List ℕ) → Over ts bytes mid between → Over mid between todo rest → Over ts bytes todo rest
  over_then ts mid todo bytes between rest a b = record { parts = a.parts ++ b.parts; reached = reaches_then ts a.parts b.parts bytes mid between todo rest a.reached b.reached }

  -- a type that is passed over wherever it stands
  abbrev pub IsOver : B → Type 0
  IsOver t = (todo : List B) (bytes : List ℕ) → Over (t ∷ todo) bytes todo bytes

  pub over_each : (us ts : List B) (bytes : List ℕ) → ((u : B) (k : ℕ) → slice_get us k ≡ Some u → IsOver u) → Over (us ++ ts) bytes ts bytes
  over_each [] ts bytes f = over_none ts ts bytes refl
  over_each (u ∷ us) ts bytes f = over_then (u ∷ (us ++ ts)) (us ++ ts) ts bytes bytes bytes (f u 0 refl (us ++ ts) bytes) (over_each us ts bytes (λ v k i. f v (suc k) i))

  pub over_copies : (n : ℕ) (t : B) (ts : List B) (bytes : List ℕ) → IsOver t → Over (copies n t ++ ts) bytes ts bytes
  over_copies zero t ts bytes f = over_none ts ts bytes refl
  over_copies (suc n) t ts bytes f = over_then (t ∷ (copies n t ++ ts)) (copies n t ++ ts) ts bytes bytes bytes (f (copies n t ++ ts) bytes) (over_copies n t ts bytes f)

  -- one turn of the loop
  pub over_next : (ts old mid new : List B) (bytes rest after : List ℕ) (t : B) → Over ts bytes old rest → old ≡ t ∷ mid → Over (t ∷ mid) rest new after → Over ts bytes new after
  over_next ts old mid new bytes rest after t a e b = over_then ts (t ∷ mid) new bytes rest after (subst (λ (x : List B). Over ts bytes x rest) e a) b

  pub stops_next : (X : Type 0) (e : Stop Fault) (ts old mid : List B) (bytes rest : List ℕ) (t : B) → Over ts bytes old rest → old ≡ t ∷ mid → IfFault {X = X} (Err e) (λ f. part_of t rest ≡ Err f) → IfFault {X = X} (Err e) (λ f. Stops part_of inside ts bytes f)
  stops_next X stop.Memory ts old mid bytes rest t a is h = tt
  stops_next X (stop.Fault f) ts old mid bytes rest t a is h = record { parts = a.parts; next = t; todo = mid; rest = rest; reached = subst (λ (x : List B). Goes ts a.parts bytes x rest) is a.reached; faulty = h }
