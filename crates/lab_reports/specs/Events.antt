-- Marks as trace events.
use Rattle.std.specs.Prelude.{ℕ, ◌+◌, ◌*◌, ◌==◌, Bool, List, [], ◌∷◌, ◌++◌, codes, if◌then◌else◌}
use Rattle.std.specs.Fmt.{decimal}
use Rattle.std.specs.List.{list_any}
use Rattle.std.specs.Str.{trim_start}
use Rattle.evl_base.specs.declared.stage.Stage.TheVariants.{Inband, Oob}
use Rattle.lab_drawing.specs.Lanes.{lane_text}
use Rattle.lab_drawing.specs.declared.lanes.Lane.{Lane}
use Rattle.lab_drawing.specs.declared.lanes.Lane.TheVariants.{Thread, Mutex, Stax, Core, Sem, Flags, Xbuf, Timer, Clock, Line, Stage}
use Rattle.lab_drawing.specs.declared.marks.Mark.{Mark}
use Rattle.lab_drawing.specs.declared.marks.Shape.{Shape}
use Rattle.lab_drawing.specs.declared.marks.Shape.TheVariants.{Answered, Begun, Ended, Refused, Arrived, Spurious, Played, Unhandled}
use Rattle.lab_reports.specs.Quotes.{json_text}

-- the kind of a lane's track, and its number there
abbrev pub track_place : Lane → ℕ × ℕ
track_place (Thread number) = (0, number)
track_place (Mutex number) = (1, number)
track_place (Sem number) = (2, number)
track_place (Flags number) = (3, number)
track_place (Xbuf number) = (4, number)
track_place (Timer number) = (5, number)
track_place Clock = (6, 0)
track_place (Stage Oob) = (7, 0)
track_place (Stage Inband) = (8, 0)
track_place (Stax number) = (9, number)
track_place Core = (10, 0)
track_place (Line Oob number) = (11, number)
track_place (Line Inband number) = (12, number)

-- a kind has 65,536 tracks
abbrev pub track : Lane → ℕ
track lane = (track_place lane).0 * 65536 + (track_place lane).1

-- the category of an event, and its colour
abbrev pub look_text : Shape → List ℕ
look_text Answered = codes "\"cat\": \"answered\", \"cname\": \"good\""
look_text Begun = codes "\"cat\": \"begun\", \"cname\": \"thread_state_runnable\""
look_text Ended = codes "\"cat\": \"ended\", \"cname\": \"thread_state_runnable\""
look_text Refused = codes "\"cat\": \"refused\", \"cname\": \"terrible\""
look_text Arrived = codes "\"cat\": \"arrived\", \"cname\": \"good\""
look_text Spurious = codes "\"cat\": \"spurious\", \"cname\": \"bad\""
look_text Played = codes "\"cat\": \"played\", \"cname\": \"rail_response\""
look_text Unhandled = codes "\"cat\": \"unhandled\", \"cname\": \"grey\""

-- the track of an event
abbrev pub on_track : Lane → List ℕ
on_track lane = codes "\"pid\": 1, \"tid\": " ++ decimal (track lane)

-- its track and its time
abbrev pub at_text : Lane → ℕ → List ℕ
at_text lane row = on_track lane ++ (codes ", \"ts\": " ++ decimal row)

-- the name of the track of a lane, and its place among the tracks
abbrev pub name_text : Lane → List ℕ
name_text lane = codes "{\"ph\": \"M\", \"name\": \"thread_name\", " ++ (on_track lane ++ (codes ", \"args\": {\"name\": \"" ++ (lane_text lane ++ codes "\"}},\n")))

abbrev pub order_text : Lane → List ℕ
order_text lane = codes "{\"ph\": \"M\", \"name\": \"thread_sort_index\", " ++ (on_track lane ++ (codes ", \"args\": {\"sort_index\": " ++ (decimal (track lane) ++ codes "}},\n")))

-- the event of a mark, of one unit of time
abbrev pub event_text : ℕ → Mark → List ℕ
event_text row mark =
    codes "{\"ph\": \"X\", \"name\": " ++ (json_text (trim_start mark.line.now)
    ++ (codes ", " ++ (look_text mark.shape ++ (codes ", " ++ (at_text mark.lane row ++ codes ", \"dur\": 1},\n")))))

-- where a wait begins or ends
abbrev pub wait_event : List ℕ → ℕ → Lane → List ℕ
wait_event phase row lane =
    codes "{\"ph\": \"" ++ (phase ++ (codes "\", \"cat\": \"wait\", \"name\": \"wait\", \"id\": " ++ (decimal (track lane)
    ++ (codes ", " ++ (at_text lane row ++ codes "},\n")))))

abbrev pub wait_text : ℕ → Mark → Shape → List ℕ
wait_text row mark Begun = wait_event (codes "b") row mark.lane
wait_text row mark Ended = wait_event (codes "e") row mark.lane
wait_text row mark _ = []

-- this track has its name
abbrev pub is_named : List ℕ → ℕ → Bool
is_named named t = list_any (λ other. other == t) named

abbrev pub event_noted : List ℕ → ℕ → List ℕ
event_noted named t = if is_named named t then named else named ++ (t ∷ [])

abbrev pub names_text : List ℕ → Lane → List ℕ
names_text named lane = if is_named named (track lane) then [] else name_text lane ++ order_text lane

-- the events of marks from this row on, where these tracks have their names: each new track gets its own before its first event
abbrev pub events_from : List ℕ → ℕ → List Mark → List ℕ
events_from named row [] = []
events_from named row (mark ∷ rest) =
    names_text named mark.lane ++ (event_text row mark ++ (wait_text row mark mark.shape ++ events_from (event_noted named (track mark.lane)) (row + 1) rest))

-- rule: Trace events are exactly their text: a track's name and place before its first event, an event for each mark,
--   and where waits begin or end.
--   clauses: write_events
--   rows: each_mark_is_an_event
-- the events of all marks, from row 1
abbrev pub events_text : List Mark → List ℕ
events_text marks =
    codes "{\"traceEvents\": [\n" ++ (events_from [] 1 marks
    ++ codes "{\"ph\": \"M\", \"name\": \"process_name\", \"pid\": 1, \"args\": {\"name\": \"machine\"}}\n]}\n")
