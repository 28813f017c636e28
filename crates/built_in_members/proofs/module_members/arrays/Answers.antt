use Rattle.typing_rules.specs.Members.{element}
use Rattle.typing_rules.specs.Terms as t
use Rattle.built_in_members.proofs.Interned.{added_on, written_on}
use Rattle.built_in_members.proofs.module_members.arrays.Goals as goal

pub array-requires-clause-part : goal.array-requires-clause-part
array-requires-clause-part c = c.in_ok-element.ensures.written.within

pub mutable_array-requires-clause-part : goal.mutable_array-requires-clause-part
mutable_array-requires-clause-part c =
    (written_on c.plain.new.types c.array.new.types c.in_ok-element.element element (c.in_ok-array.ensures element c.in_ok-element.ensures.written).added c.in_ok-element.ensures.written).within

pub returns : goal.returns
returns c =
    let w1 = c.in_ok-element.ensures in
    let w2 = c.in_ok-array.ensures element w1.written in
    let e2 = written_on c.plain.new.types c.array.new.types c.in_ok-element.element element w2.added w1.written in
    let w3 = c.in_ok-mutable.ensures element e2 in
    record {
      added = added_on c.args.types.now c.plain.new.types c.mutable_array.new.types w1.added (added_on c.plain.new.types c.array.new.types c.mutable_array.new.types w2.added w3.added);
      own = written_on c.array.new.types c.mutable_array.new.types c.in_ok-element.element element w3.added e2;
      array = written_on c.array.new.types c.mutable_array.new.types c.in_ok-array.array (t.Array element) w3.added w2.written;
      mutable = w3.written;
    }

pub array-requires-clause-kept : goal.array-requires-clause-kept
array-requires-clause-kept c = c.in_ok-element.ensures.added.kept

pub mutable_array-requires-clause-kept : goal.mutable_array-requires-clause-kept
mutable_array-requires-clause-kept c = (c.in_ok-array.ensures element c.in_ok-element.ensures.written).added.kept
