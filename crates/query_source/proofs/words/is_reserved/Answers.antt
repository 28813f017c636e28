use Rattle.std.proofs.Common.{◌≡◌, ◌∙◌, sym}
use Rattle.std.specs.List.{list_any}
use Rattle.std.specs.Str.{bytes_eq}
use Rattle.query_source.specs.Words.{reserved}
use Rattle.query_source.proofs.Spellings.{reserved_when, reserved_only}
use Rattle.query_source.proofs.words.is_reserved.Goals as goal

pub returns : goal.returns
returns c =
    let h : c.contains.result ≡ list_any (λ w. bytes_eq w c.args.word.now) reserved = c.contains.ensures.value in
    (λ t. reserved_when reserved c.args.word.now (sym h ∙ t), λ w. h ∙ reserved_only reserved c.args.word.now w)
