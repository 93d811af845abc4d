-- The answer lines of events. Document 01, Runner: "Each output line: ..", one for each event of a capture as for each event line.
use Rattle.std.specs.Prelude.{ℕ, List, [], ◌∷◌, ◌++◌}
use Rattle.event.specs.Numbers.{Numbers}
use Rattle.chain_step.specs.Run.{Lent, lent_after}
use Rattle.bus_reply.specs.declared.Reply.{Reply}
use Rattle.bus_reply.specs.Reply.{event_reply, line_count, line_answer}

abbrev pub reply_to : Numbers → Lent → Reply
reply_to n d = event_reply n.kind n.a n.b d.chain d.file

-- in order, each on the chain and the file that the events before it left
abbrev pub events_answers : ℕ → Lent → List Numbers → List ℕ
events_answers count d [] = []
events_answers count d (n ∷ rest) = line_answer (line_count count) (reply_to n d) ++ events_answers (line_count count) (lent_after n d) rest

-- how many were answered then
abbrev pub count_after : ℕ → List Numbers → ℕ
count_after count [] = count
count_after count (n ∷ rest) = count_after (line_count count) rest
