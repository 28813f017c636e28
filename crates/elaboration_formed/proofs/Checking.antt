-- The checks of a pattern are formed, where what follows is.
use Rattle.std.proofs.Common.{◌≡◌, ℕ, suc, ◌-◌, ◌<◌, ◌≤◌, Bool, true, false, List, [], ◌∷◌, ◌++◌, refl, sym, subst, arith}
use Rattle.mo_types.specs.declared.datum.Datum.{Datum}
use Rattle.mo_types.specs.declared.datum.Datum.TheVariants as part
use Rattle.mo_values.specs.Shapes.{Bytes}
use Rattle.core_ir.specs.declared.primitive.Constructor.{Constructor}
use Rattle.core_ir.specs.Programs.{Group}
use Rattle.core_ir.specs.Expressions as core
use Rattle.core_ir.specs.Expressions.{Body}
use Rattle.typed_tree.specs.Patterns as pattern
use Rattle.typed_tree.specs.Patterns.{Pat, Pats, Wildcard, Constant, Present?, Tagged, Parts, Fields, Either, NoPat, APat}
use Rattle.elaboration.specs.Checks.{Check, Opens, around, around_all, Checked, Source, Named, Part, value_of, loads, level_of, names_with, part_of, field_of, truth, literal, flag, check, check_parts, check_fields, check_all, locals}
use Rattle.elaboration_formed.specs.Formed.{Formed, PlacesFit}

module _ (globals : ℕ) (table : List (Group Body)) (b : Bool) where
  abbrev F : ℕ → ℕ → core.Exp → Type 0
  F names labels c = Formed globals table b names labels c

  -- without names and labels
  abbrev pub Closed : core.Exp → Type 0
  Closed c = (names labels : ℕ) → F names labels c

  abbrev pub SourceFits : Source → ℕ → Type 0
  SourceFits (Named level) n = level < n
  SourceFits (Part e) n = (labels : ℕ) → F n labels e

  -- checks lead from so many names to more
  pub record Leads (n m : ℕ) (cs : List Check) : Type 0 where
    pub more : n ≤ m
    pub formed : (labels : ℕ) (fails next : core.Exp) → Closed fails → F m labels next → F n labels (around_all cs fails next)

  stay : (n : ℕ) → Leads n n []
  stay n = record { more = omega arith; formed = λ labels f next c h. h }

  joined_around : (cs ds : List Check) (f next : core.Exp) → around_all (cs ++ ds) f next ≡ around_all cs f (around_all ds f next)
  joined_around [] ds f next = refl
  joined_around (c ∷ cs) ds f next = cong_around c f (joined_around cs ds f next)
    where
      cong_around : (c : Check) (f : core.Exp) {x y : core.Exp} → x ≡ y → around c f x ≡ around c f y
      cong_around c f q = λ i. around c f (q i)

  append : (n m k : ℕ) (cs ds : List Check) → Leads n m cs → Leads m k ds → Leads n k (cs ++ ds)
  append n m k cs ds p q = record {
    more = omega (arith, p.more, q.more);
    formed = λ labels f next c h. subst (F n labels) (sym (joined_around cs ds f next)) (p.formed labels f (around_all ds f next) c (q.formed labels f next c h));
  }

  named : (n level : ℕ) → level < n → n - suc level < n
  named n level h = omega (arith, h)

  value_formed : (v : Source) (n labels : ℕ) → SourceFits v n → F n labels (value_of v n)
  value_formed (Named level) n labels h = named n level h
  value_formed (Part e) n labels h = h labels

  loaded : (v : Source) (n : ℕ) → SourceFits v n → Leads n (names_with v n) (loads v)
  loaded (Named level) n h = stay n
  loaded (Part e) n h = record { more = omega arith; formed = λ labels f next c k. ((refl, k), (h labels, tt)) }

  level_fits : (v : Source) (n : ℕ) → SourceFits v n → level_of v n < names_with v n
  level_fits (Named level) n h = h
  level_fits (Part e) n h = omega arith

  tests : (d : Datum) (v : Source) (n : ℕ) → SourceFits v n → Leads n n (literal d (value_of v n) ∷ [])
  tests part.Null v n h = record { more = omega arith; formed = λ labels f next c k. ((refl, c (suc n) labels, k), (value_formed v n labels h, tt)) }
  tests (part.Flag x) v n h = record { more = omega arith; formed = λ labels f next c k. ((refl, refl, k, c n labels), (value_formed v n labels h, tt)) }
  tests (part.Number x) v n h = record { more = omega arith; formed = λ labels f next c k. ((refl, refl, k, c n labels), (value_formed v n labels h, tt)) }
  tests (part.Char x) v n h = record { more = omega arith; formed = λ labels f next c k. ((refl, refl, k, c n labels), (value_formed v n labels h, tt)) }
  tests (part.Text x) v n h = record { more = omega arith; formed = λ labels f next c k. ((refl, refl, k, c n labels), (value_formed v n labels h, tt)) }
  tests (part.Blob x) v n h = record { more = omega arith; formed = λ labels f next c k. ((refl, refl, k, c n labels), (value_formed v n labels h, tt)) }
  tests (part.Principal x) v n h = record { more = omega arith; formed = λ labels f next c k. ((refl, refl, k, c n labels), (value_formed v n labels h, tt)) }
  tests (part.Actor x) v n h = record { more = omega arith; formed = λ labels f next c k. ((refl, refl, k, c n labels), (value_formed v n labels h, tt)) }
  tests (part.Method x y) v n h = record { more = omega arith; formed = λ labels f next c k. ((refl, refl, k, c n labels), (value_formed v n labels h, tt)) }
  tests part.Present v n h = record { more = omega arith; formed = λ labels f next c k. ((refl, refl, k, c n labels), (value_formed v n labels h, tt)) }
  tests (part.Many x) v n h = record { more = omega arith; formed = λ labels f next c k. ((refl, refl, k, c n labels), (value_formed v n labels h, tt)) }
  tests (part.Record x) v n h = record { more = omega arith; formed = λ labels f next c k. ((refl, refl, k, c n labels), (value_formed v n labels h, tt)) }
  tests (part.Tag x) v n h = record { more = omega arith; formed = λ labels f next c k. ((refl, refl, k, c n labels), (value_formed v n labels h, tt)) }

  opens : (k : Constructor) (v : Source) (n : ℕ) → SourceFits v n → Leads n (suc n) (Opens k (value_of v n) ∷ [])
  opens k v n h = record { more = omega arith; formed = λ labels f next c i. ((refl, i, c n labels), (value_formed v n labels h, tt)) }

  -- the levels of names are below so many
  abbrev pub LevelsFit : ℕ → List ℕ → Type 0
  LevelsFit n [] = Unit {0}
  LevelsFit n (l ∷ levels) = (l < n) × LevelsFit n levels

  levels_more : (n m : ℕ) (levels : List ℕ) → n ≤ m → LevelsFit n levels → LevelsFit m levels
  levels_more n m [] h k = tt
  levels_more n m (l ∷ levels) h k = (omega (arith, h, k.0), levels_more n m levels h k.1)

  levels_both : (n : ℕ) (ls ms : List ℕ) → LevelsFit n ls → LevelsFit n ms → LevelsFit n (ls ++ ms)
  levels_both n [] ms h k = k
  levels_both n (l ∷ ls) ms h k = (h.0, levels_both n ls ms h.1 k)

  pub record Good (n : ℕ) (c : Checked) : Type 0 where
    pub leads : Leads n c.names c.checks
    pub levels : LevelsFit c.names c.bound

  truth_closed : (cs : List Check) (n m : ℕ) → Leads n m cs → (labels : ℕ) → F n labels (truth cs)
  truth_closed cs n m h labels = h.formed labels (flag false) (flag true) (λ x y. tt) tt

  mutual
    pub checked : (p : Pat) (v : Source) (n : ℕ) → SourceFits v n → Good n (check p v n)
    checked Wildcard v n h = record { leads = stay n; levels = tt }
    checked pattern.Bind v n h = record { leads = loaded v n h; levels = (level_fits v n h, tt) }
    checked (Constant d) v n h = record { leads = tests d v n h; levels = tt }
    checked (Present? p) v n h = let g = checked p (Named n) (suc n) (omega arith) in record { leads = append n (suc n) _ _ _ (opens _ v n h) g.leads; levels = g.levels }
    checked (Tagged l p) v n h = let g = checked p (Named n) (suc n) (omega arith) in record { leads = append n (suc n) _ _ _ (opens _ v n h) g.leads; levels = g.levels }
    checked (Parts ps) v n h = let g = parts_checked ps 0 (level_of v n) (names_with v n) (level_fits v n h) in record { leads = append n (names_with v n) _ _ _ (loaded v n h) g.leads; levels = g.levels }
    checked (Fields ls ps) v n h = let g = fields_checked ls ps (level_of v n) (names_with v n) (level_fits v n h) in record { leads = append n (names_with v n) _ _ _ (loaded v n h) g.leads; levels = g.levels }
    checked (Either p q) v n h =
        let m = names_with v n in
        let x = checked p (Named (level_of v n)) m (level_fits v n h) in
        let y = checked q (Named (level_of v n)) m (level_fits v n h) in
        record {
          leads = append n m m (loads v) _ (loaded v n h)
              (record {
                more = omega arith;
                formed = λ labels f next c k. ((refl, refl, k, c m labels), (((refl, refl, tt, truth_closed _ m _ y.leads labels), (truth_closed _ m _ x.leads labels, tt)), tt));
              });
          levels = tt;
        }

    parts_checked : (ps : Pats) (i level n : ℕ) → level < n → Good n (check_parts ps i level n)
    parts_checked NoPat i level n h = record { leads = stay n; levels = tt }
    parts_checked (APat p ps) i level n h =
        let x = checked p (part_of i level n) n (λ labels. (refl, (named n level h, tt))) in
        let y = parts_checked ps (suc i) level (check p (part_of i level n) n).names (omega (arith, h, x.leads.more)) in
        record { leads = append n _ _ _ _ x.leads y.leads; levels = levels_both _ _ _ (levels_more _ _ _ y.leads.more x.levels) y.levels }

    fields_checked : (ls : List Bytes) (ps : Pats) (level n : ℕ) → level < n → Good n (check_fields ls ps level n)
    fields_checked ls NoPat level n h = record { leads = stay n; levels = tt }
    fields_checked [] (APat p ps) level n h = record { leads = stay n; levels = tt }
    fields_checked (l ∷ ls) (APat p ps) level n h =
        let x = checked p (field_of l level n) n (λ labels. (refl, (named n level h, tt))) in
        let y = fields_checked ls ps level (check p (field_of l level n) n).names (omega (arith, h, x.leads.more)) in
        record { leads = append n _ _ _ _ x.leads y.leads; levels = levels_both _ _ _ (levels_more _ _ _ y.leads.more x.levels) y.levels }

  pub all_checked : (ps : Pats) (level n : ℕ) → level < n → Good n (check_all ps level n)
  all_checked NoPat level n h = record { leads = stay n; levels = tt }
  all_checked (APat p ps) level n h =
      let x = checked p (Named level) n h in
      let y = all_checked ps (level - 1) (check p (Named level) n).names (omega (arith, h, x.leads.more)) in
      record { leads = append n _ _ _ _ x.leads y.leads; levels = levels_both _ _ _ (levels_more _ _ _ y.leads.more x.levels) y.levels }

  -- ---- their names as places

  pub places_fit : (n : ℕ) (levels : List ℕ) → LevelsFit n levels → PlacesFit globals n (locals levels)
  places_fit n [] h = tt
  places_fit n (l ∷ levels) h = (h.0, places_fit n levels h.1)
