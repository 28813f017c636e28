use Rattle.std.proofs.Common.{[], ◌++◌, refl, sym}
use Rattle.std.proofs.lemmas.List.{append-nil}
use Rattle.candid_laws.proofs.Once.{reads_once}
use Rattle.candid_laws.proofs.reading.one_value.Goals as goal

pub returns : goal.returns
returns c = record {
  value = λ head types bytes v w h k. (reads_once head types bytes bytes [] [] v w h k refl).0;
  end = λ head types bytes more v w h k. (reads_once head types bytes (bytes ++ more) more [] v w h k (sym (append-nil (bytes ++ more)))).1;
}
