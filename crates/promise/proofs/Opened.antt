-- A call, opened for proofs that compute it at a small arena: such a proof names `opened`, and so all that this line names unfolds there.
-- Assumes nothing.
use mathlib.Core.List.{List}
use Prim.Native.Nat.{ℕ}
use Rattle.words.specs.Round as R
use Rattle.words.specs.Align as Al
use Rattle.words.specs.Word as W
use Rattle.records.specs.Answer.{Outcome}
use Rattle.records.specs.Setup as St
use Rattle.records.specs.Head as Hd
use Rattle.records.specs.Rule as Ru
use Rattle.records.specs.declared.Shape.{Shape}
use Rattle.records.specs.declared.Header.{Header}
use Rattle.requests.specs.Request as Rq
use Rattle.positions.specs.NewTop as P
use Rattle.freelist.specs.Check as C
use Rattle.freelist.specs.Link as L
use Rattle.freelist.specs.Sound as So
use Rattle.arena.specs.Take as T
use Rattle.arena.specs.Give as G
use Rattle.arena.specs.Rewind as Re
use Rattle.calls.specs.declared.Call.{Call}
use Rattle.calls.specs.Calls.{performed}

unfoldable pub opened : Shape → Header → List ℕ → Call → Outcome
unfolding R.round_up Al.good_align W.value_of W.digits W.splice W.word_at W.put_word W.zeroed St.data_offset St.policy_of St.setting_up Hd.head_sound Ru.segment_of Rq.good_layout Rq.well_formed Rq.plain Rq.for_nothing Rq.want Rq.need Rq.asked Rq.top_block Rq.zeroed_from Rq.list_block P.exact_top P.new_top C.in_range C.may_follow C.kept C.good_run C.soundb L.link_bytes L.link_head L.insert_bytes L.insert_head L.remove_bytes L.remove_head So.sound So.free T.from_top T.first_fit T.head_fit T.look T.serve_from T.serve T.from_list T.past_top T.taking G.put_in G.below_top G.giving_back Re.discarding Re.rewinding
opened = performed
