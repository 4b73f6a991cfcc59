-- Worked rows, computed.
use Rattle.std.proofs.Common.{◌≡◌, ℕ, List, [], ◌∷◌, Some, None, Ok, Err, refl}
use Rattle.evl_base.specs.declared.stage.Stage.TheVariants.{Inband, Oob}
use Rattle.evl_base.specs.declared.way.Way.TheVariants.{In, Out}
use Rattle.evl_base.specs.declared.refusal.Refusal.TheVariants.{Again, Range, TooBig, WrongStage}
use Rattle.evl_xbuf.specs.declared.waiters.Reader.{Reader}
use Rattle.evl_xbuf.specs.declared.waiters.Writer.{Writer}
use Rattle.evl_xbuf.specs.Streams as streams
use Rattle.evl_xbuf.specs.Streams.{Stream, Wrote, Got}
use Rattle.evl_xbuf.specs.Flows.{Write, Read, BeginWrite, BeginRead, Drop, run}
use Rattle.evl_xbuf.specs.Xbufs as xbufs
use Rattle.evl_xbuf.specs.Xbufs.{Xbuf}

abbrev writer : ℕ → List ℕ → Writer
writer thread bytes = record { thread = thread; bytes = record { items = bytes } }

abbrev reader : ℕ → ℕ → Reader
reader thread len = record { thread = thread; len = len }

-- a buffer of two rings of 4 bytes, with these bytes in the ring of way `In`
abbrev holds : List ℕ → Xbuf
holds bytes = record { inbound = record { size = 4; there = bytes; writers = []; readers = [] }; outbound = streams.empty 4 }

fresh : xbufs.opened_xbuf 4 4 ≡ holds []
fresh = refl

cross_buffer-write : xbufs.try_write Inband In (0x61 ∷ 0x62 ∷ 0x63 ∷ 0x64 ∷ []) (holds []) ≡ Ok ([], holds (0x61 ∷ 0x62 ∷ 0x63 ∷ 0x64 ∷ []))
cross_buffer-write = refl

cross_buffer-full : xbufs.try_write Inband In (0x65 ∷ []) (holds (0x61 ∷ 0x62 ∷ 0x63 ∷ 0x64 ∷ [])) ≡ Err Again
cross_buffer-full = refl

cross_buffer-too_big : xbufs.try_write Inband In (0x61 ∷ 0x62 ∷ 0x63 ∷ 0x64 ∷ 0x65 ∷ []) (holds (0x61 ∷ 0x62 ∷ 0x63 ∷ 0x64 ∷ [])) ≡ Err TooBig
cross_buffer-too_big = refl

cross_buffer-read : xbufs.try_read Oob In 3 (holds (0x61 ∷ 0x62 ∷ 0x63 ∷ 0x64 ∷ [])) ≡ Ok ((0x61 ∷ 0x62 ∷ 0x63 ∷ [], []), holds (0x64 ∷ []))
cross_buffer-read = refl

cross_buffer-room : streams.room (holds (0x64 ∷ [])).inbound ≡ 3
cross_buffer-room = refl

cross_buffer-whole : xbufs.try_write Inband In (0x65 ∷ 0x66 ∷ 0x67 ∷ 0x68 ∷ []) (holds (0x64 ∷ [])) ≡ Err Again
cross_buffer-whole = refl

cross_buffer-fits : xbufs.try_write Inband In (0x65 ∷ 0x66 ∷ 0x67 ∷ []) (holds (0x64 ∷ [])) ≡ Ok ([], holds (0x64 ∷ 0x65 ∷ 0x66 ∷ 0x67 ∷ []))
cross_buffer-fits = refl

cross_buffer-all : xbufs.try_read Oob In 9 (holds (0x64 ∷ 0x65 ∷ 0x66 ∷ 0x67 ∷ [])) ≡ Ok ((0x64 ∷ 0x65 ∷ 0x66 ∷ 0x67 ∷ [], []), holds [])
cross_buffer-all = refl

cross_buffer-wrong_stage : xbufs.try_write Oob In (0x61 ∷ []) (holds []) ≡ Err WrongStage
cross_buffer-wrong_stage = refl

cross_buffer-nothing : xbufs.try_read Oob In 0 (holds []) ≡ Ok (([], []), holds [])
cross_buffer-nothing = refl

cross_buffer-empty : xbufs.try_read Oob In 1 (holds []) ≡ Err Again
cross_buffer-empty = refl

-- the ring is full, and thread 0 waits to write four bytes more
abbrev with_writer : List ℕ → Xbuf
with_writer bytes = record { inbound = record { size = 4; there = bytes; writers = writer 0 (0x65 ∷ 0x66 ∷ 0x67 ∷ 0x68 ∷ []) ∷ []; readers = [] }; outbound = streams.empty 4 }

flags_and_buffers_1-begun : xbufs.begin_write 0 Inband In (0x65 ∷ 0x66 ∷ 0x67 ∷ 0x68 ∷ []) (holds (0x61 ∷ 0x62 ∷ 0x63 ∷ 0x64 ∷ [])) ≡ Ok (None, with_writer (0x61 ∷ 0x62 ∷ 0x63 ∷ 0x64 ∷ []))
flags_and_buffers_1-begun = refl

flags_and_buffers_1-read : xbufs.try_read Oob In 1 (with_writer (0x61 ∷ 0x62 ∷ 0x63 ∷ 0x64 ∷ [])) ≡ Ok ((0x61 ∷ [], []), with_writer (0x62 ∷ 0x63 ∷ 0x64 ∷ []))
flags_and_buffers_1-read = refl

-- no write goes past a waiting writer, though it would fit
flags_and_buffers_1-behind : xbufs.try_write Inband In (0x78 ∷ []) (with_writer (0x62 ∷ 0x63 ∷ 0x64 ∷ [])) ≡ Err Again
flags_and_buffers_1-behind = refl

flags_and_buffers_1-served : xbufs.try_read Oob In 9 (with_writer (0x62 ∷ 0x63 ∷ 0x64 ∷ [])) ≡ Ok ((0x62 ∷ 0x63 ∷ 0x64 ∷ [], Wrote 0 ∷ []), holds (0x65 ∷ 0x66 ∷ 0x67 ∷ 0x68 ∷ []))
flags_and_buffers_1-served = refl

flags_and_buffers_1-last : xbufs.try_read Oob In 9 (holds (0x65 ∷ 0x66 ∷ 0x67 ∷ 0x68 ∷ [])) ≡ Ok ((0x65 ∷ 0x66 ∷ 0x67 ∷ 0x68 ∷ [], []), holds [])
flags_and_buffers_1-last = refl

flags_and_buffers_1-range : xbufs.try_read Oob In 257 (holds []) ≡ Err Range
flags_and_buffers_1-range = refl

-- thread 1 waits to read two bytes
abbrev with_reader : Xbuf
with_reader = record { inbound = record { size = 4; there = []; writers = []; readers = reader 1 2 ∷ [] }; outbound = streams.empty 4 }

flags_and_buffers_2-begun : xbufs.begin_read 1 Oob In 2 (holds []) ≡ Ok (None, with_reader)
flags_and_buffers_2-begun = refl

flags_and_buffers_2-served : xbufs.try_write Inband In (0x61 ∷ 0x62 ∷ 0x63 ∷ []) with_reader ≡ Ok (Got 1 (0x61 ∷ 0x62 ∷ []) ∷ [], holds (0x63 ∷ []))
flags_and_buffers_2-served = refl

flags_and_buffers_2-room : streams.room (holds (0x63 ∷ [])).inbound ≡ 3
flags_and_buffers_2-room = refl

-- the longest transfer at the wrong end is out of range, a write too long there is at the wrong stage
order_of_refusals-read : xbufs.try_read Inband In 257 (holds []) ≡ Err Range
order_of_refusals-read = refl

order_of_refusals-write : xbufs.try_write Oob In (0x61 ∷ 0x62 ∷ 0x63 ∷ 0x64 ∷ 0x65 ∷ []) (holds []) ≡ Err WrongStage
order_of_refusals-write = refl

order_of_refusals-begin_read : xbufs.begin_read 1 Inband In 257 (holds []) ≡ Err Range
order_of_refusals-begin_read = refl

order_of_refusals-begin_write : xbufs.begin_write 1 Oob In (0x61 ∷ 0x62 ∷ 0x63 ∷ 0x64 ∷ 0x65 ∷ []) (holds []) ≡ Err WrongStage
order_of_refusals-begin_write = refl

begin_write-too_big : xbufs.begin_write 1 Inband In (0x61 ∷ 0x62 ∷ 0x63 ∷ 0x64 ∷ 0x65 ∷ []) (holds []) ≡ Err TooBig
begin_write-too_big = refl

-- a write of nothing goes past waiting writers, and serves nobody
nothing-write : xbufs.try_write Inband In [] (with_writer (0x62 ∷ [])) ≡ Ok ([], with_writer (0x62 ∷ []))
nothing-write = refl

nothing-read : xbufs.begin_read 2 Oob In 0 with_reader ≡ Ok (Some ([], []), with_reader)
nothing-read = refl

-- two readers share what one write brought; the third waits on
shared : streams.try_write (0x61 ∷ 0x62 ∷ 0x63 ∷ []) (record { size = 4; there = []; writers = []; readers = reader 1 2 ∷ reader 5 9 ∷ reader 2 1 ∷ [] })
    ≡ Ok (Got 1 (0x61 ∷ 0x62 ∷ []) ∷ Got 5 (0x63 ∷ []) ∷ [], record { size = 4; there = []; writers = []; readers = reader 2 1 ∷ [] })
shared = refl

-- the first writer was too long for what is free; once it waits no more, the second one is served
dropped-writer : streams.drop_waiter 7 (record { size = 4; there = 0x61 ∷ []; writers = writer 7 (1 ∷ 2 ∷ 3 ∷ 4 ∷ []) ∷ writer 3 (0x62 ∷ []) ∷ writer 4 (5 ∷ 6 ∷ 7 ∷ []) ∷ []; readers = [] })
    ≡ (Wrote 3 ∷ [], record { size = 4; there = 0x61 ∷ 0x62 ∷ []; writers = writer 4 (5 ∷ 6 ∷ 7 ∷ []) ∷ []; readers = [] })
dropped-writer = refl

dropped-stranger : xbufs.drop_waiter 9 In (with_writer (0x62 ∷ [])) ≡ ([], with_writer (0x62 ∷ []))
dropped-stranger = refl

-- way `Out` has a ring of its own, which is written out-of-band
other_way : xbufs.try_write Oob Out (0x78 ∷ []) (with_writer (0x62 ∷ [])) ≡ Ok ([], record (with_writer (0x62 ∷ [])) { outbound = record { size = 4; there = 0x78 ∷ []; writers = []; readers = [] } })
other_way = refl

-- the bytes of a waiting writer are accepted once it is served, and are read last; those of a dropped one never are
waiting_bytes : run (Write (0x61 ∷ 0x62 ∷ 0x63 ∷ 0x64 ∷ []) ∷ BeginWrite 0 (0x65 ∷ 0x66 ∷ []) ∷ BeginWrite 2 (0x7A ∷ []) ∷ Read 1 ∷ Drop 2 ∷ Write (0x78 ∷ []) ∷ Read 9 ∷ BeginRead 1 1 ∷ []) (streams.empty 4)
    ≡ record { accepted = 0x61 ∷ 0x62 ∷ 0x63 ∷ 0x64 ∷ 0x65 ∷ 0x66 ∷ []; taken = 0x61 ∷ 0x62 ∷ 0x63 ∷ 0x64 ∷ 0x65 ∷ []; after = record { size = 4; there = 0x66 ∷ []; writers = []; readers = [] } }
waiting_bytes = refl

-- a waiting reader takes its bytes once it is served
waiting_reader : run (BeginRead 1 2 ∷ Write (0x61 ∷ 0x62 ∷ 0x63 ∷ []) ∷ []) (streams.empty 4)
    ≡ record { accepted = 0x61 ∷ 0x62 ∷ 0x63 ∷ []; taken = 0x61 ∷ 0x62 ∷ []; after = record { size = 4; there = 0x63 ∷ []; writers = []; readers = [] } }
waiting_reader = refl
