use Rattle.std.proofs.Common.{◌≡◌, inl, inr, true, false, map, sym, ap, ◌∙◌, subst, rules}
use Rattle.std.specs.Prelude.{cond}
use Rattle.typed_tree.specs.Language.{NoFunction}
use Rattle.typed_tree.specs.Opening.{Code, Closed}
use Rattle.typed_tree.specs.PatternView.{pattern}
use Rattle.pattern_coverage.specs.Cover as coverage
use Rattle.pattern_coverage.specs.Cover.{IsExact, first_missed, missed}
use Rattle.pattern_coverage.specs.Followed.{value_head}
use Rattle.pattern_coverage.specs.Inhabited.{in_table}
use Rattle.pattern_coverage.specs.Known.{Unknown}
use Rattle.pattern_coverage.proofs.Covered.{exact}
use Rattle.mo_coverage.specs.Covering.{cover_in}
use Rattle.mo_coverage.specs.Met.{IsByTags}
use Rattle.mo_coverage.proofs.EasyTags.{by_tags}
use Rattle.mo_coverage.proofs.EasyWhole.{whole_by_one, whole_by_tags}
use Rattle.mo_coverage.proofs.Missed.{one_by_one}
use Rattle.mo_coverage.proofs.missing.covers.Goals as goal

pub returns-then-not-is_in : goal.returns-then-not-is_in
returns-then-not-is_in c =
    let m : false ≡ in_table c.args.table.now c.args.id = search rules in
    let e : coverage.Whole ≡ coverage.coverage (value_head c.args.types.now) (in_table c.args.table.now) (map (λ p. pattern p.now) c.args.patterns.now) c.args.id =
    ap (λ b. cond b (first_missed (missed (value_head c.args.types.now) (in_table c.args.table.now) (map (λ p. pattern p.now) c.args.patterns.now) c.args.id Unknown)) coverage.Whole) m in
    record {
      coverage = e;
      exact = subst (λ z. IsExact (value_head c.args.types.now) Code c.args.id (map (λ p. pattern p.now) c.args.patterns.now) z) (sym e) (exact (Closed NoFunction 0) c.args.types.now (in_table c.args.table.now) c.args.id (map (λ p. pattern p.now) c.args.patterns.now) c.requires.lawful c.requires.table c.requires.on);
    }

pub returns-then-branch : goal.returns-then-branch
returns-then-branch c =
    let e : coverage.Whole ≡ coverage.coverage (value_head c.args.types.now) (in_table c.args.table.now) (map (λ p. pattern p.now) c.args.patterns.now) c.args.id =
    elim (c.in_ok-is_easily_whole.ensures c.if-branch.true) as (λ _. coverage.Whole ≡ coverage.coverage (value_head c.args.types.now) (in_table c.args.table.now) (map (λ p. pattern p.now) c.args.patterns.now) c.args.id) [
      | inl s ↦ whole_by_one (Closed NoFunction 0) c.args.types.now (in_table c.args.table.now) c.args.id (map (λ p. pattern p.now) c.args.patterns.now) c.requires.lawful c.requires.table c.requires.on s
      | inr s ↦ whole_by_tags (Closed NoFunction 0) c.args.types.now (in_table c.args.table.now) c.args.id (map (λ p. pattern p.now) c.args.patterns.now) c.requires.lawful c.requires.table c.requires.on s.0 s.1 s.2
    ] in
    record {
      coverage = e;
      exact = subst (λ z. IsExact (value_head c.args.types.now) Code c.args.id (map (λ p. pattern p.now) c.args.patterns.now) z) (sym e) (exact (Closed NoFunction 0) c.args.types.now (in_table c.args.table.now) c.args.id (map (λ p. pattern p.now) c.args.patterns.now) c.requires.lawful c.requires.table c.requires.on);
    }

pub returns-in-Some : goal.returns-in-Some
returns-in-Some c =
    let m : in_table c.args.table.now c.args.id ≡ true = search rules in
    let told : IsByTags (in_table c.args.table.now) (value_head c.args.types.now c.args.id) (map (λ p. pattern p.now) c.args.patterns.now) (cover_in c.in-Some.cover) = search rules in
    let e : cover_in c.in-Some.cover ≡ coverage.coverage (value_head c.args.types.now) (in_table c.args.table.now) (map (λ p. pattern p.now) c.args.patterns.now) c.args.id =
    by_tags c.args.types.now (in_table c.args.table.now) c.requires.table c.args.id (map (λ p. pattern p.now) c.args.patterns.now) (cover_in c.in-Some.cover) c.requires.on m told in
    record {
      coverage = e;
      exact = subst (λ z. IsExact (value_head c.args.types.now) Code c.args.id (map (λ p. pattern p.now) c.args.patterns.now) z) (sym e) (exact (Closed NoFunction 0) c.args.types.now (in_table c.args.table.now) c.args.id (map (λ p. pattern p.now) c.args.patterns.now) c.requires.lawful c.requires.table c.requires.on);
    }

pub returns-in_ok-miss_all-in-None : goal.returns-in_ok-miss_all-in-None
returns-in_ok-miss_all-in-None c =
    let m : true ≡ in_table c.args.table.now c.args.id = search rules in
    let e : cover_in c.first.result ≡ coverage.coverage (value_head c.args.types.now) (in_table c.args.table.now) (map (λ p. pattern p.now) c.args.patterns.now) c.args.id =
    c.first.ensures ∙ ap first_missed (c.in_ok-miss_all-in-None.ensures ∙ one_by_one (value_head c.args.types.now) (in_table c.args.table.now) (map (λ p. pattern p.now) c.args.patterns.now) c.args.id)
    ∙ ap (λ b. cond b (first_missed (missed (value_head c.args.types.now) (in_table c.args.table.now) (map (λ p. pattern p.now) c.args.patterns.now) c.args.id Unknown)) coverage.Whole) m in
    record {
      coverage = e;
      exact = subst (λ z. IsExact (value_head c.args.types.now) Code c.args.id (map (λ p. pattern p.now) c.args.patterns.now) z) (sym e) (exact (Closed NoFunction 0) c.args.types.now (in_table c.args.table.now) c.args.id (map (λ p. pattern p.now) c.args.patterns.now) c.requires.lawful c.requires.table c.requires.on);
    }
