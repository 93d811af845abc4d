-- The first line that differs, in the order of `changes_of`.
use Rattle.std.proofs.Common.{refl, rules}
use Rattle.capture_events.proofs.Changing.{select_first, heads_next, readgate_next, writegate_next, command_next, request_last, none_changes}
use Rattle.capture_events.proofs.Coming.{line_next, none_next}
use Rattle.capture_events.proofs.next_change.Goals as goal

pub returns-then-lines-new : goal.returns-then-lines-new
returns-then-lines-new c = line_next _ _ c.requires 0 _ _ c.new.ensures refl (select_first _ _ c.if-lines-new.true)

pub returns-then-ne : goal.returns-then-ne
returns-then-ne c = line_next _ _ c.requires 1 _ _ c.new-then-ne.ensures refl (heads_next _ _ c.if-lines-new.false (search rules))

pub returns-then-lines-new-2 : goal.returns-then-lines-new-2
returns-then-lines-new-2 c = line_next _ _ c.requires 3 _ _ c.new-then-lines-new-2.ensures refl (readgate_next _ _ c.if-lines-new.false (search rules) c.if-lines-new-2.true)

pub returns-then-lines-new-3 : goal.returns-then-lines-new-3
returns-then-lines-new-3 c = line_next _ _ c.requires 2 _ _ c.new-then-lines-new-3.ensures refl (writegate_next _ _ c.if-lines-new.false (search rules) c.if-lines-new-2.false c.if-lines-new-3.true)

pub returns-then-lines-new-4 : goal.returns-then-lines-new-4
returns-then-lines-new-4 c = line_next _ _ c.requires 4 _ _ c.new-then-lines-new-4.ensures refl (command_next _ _ c.if-lines-new.false (search rules) c.if-lines-new-2.false c.if-lines-new-3.false c.if-lines-new-4.true)

pub returns-then-lines-new-5 : goal.returns-then-lines-new-5
returns-then-lines-new-5 c = line_next _ _ c.requires 5 _ _ c.new-then-lines-new-5.ensures refl (request_last _ _ c.if-lines-new.false (search rules) c.if-lines-new-2.false c.if-lines-new-3.false c.if-lines-new-4.false c.if-lines-new-5.true)

pub returns : goal.returns
returns c =
    none_next _ _ c.requires
    (none_changes _ _ c.if-lines-new.false (search rules) c.if-lines-new-2.false c.if-lines-new-3.false c.if-lines-new-4.false c.if-lines-new-5.false)
