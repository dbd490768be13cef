-- A frame is read exactly where a packet is spelled so.
use Rattle.std.proofs.Common.{◌≡◌, ℕ, List, [], ◌∷◌, Option, Some, None, Result, Ok, Err, refl, sym, ap, subst, ◌∙◌}
use Rattle.std.specs.Prelude.{IfOk}
use Rattle.std.proofs.lemmas.List.{append-nil}
use Rattle.obq_wire.specs.declared.packets.Packet.{Packet}
use Rattle.obq_wire.specs.declared.refusal.WireRefused.{WireRefused}
use Rattle.obq_wire.specs.Spelling.{spelling}
use Rattle.obq_wire.specs.Fits.{HasFields}
use Rattle.obq_wire.specs.Order.{misplaced}
use Rattle.obq_wire.specs.Reading.{packet_at}
use Rattle.obq_wire.specs.Frames.{Spells, in_order, whole, frame_at, Answers}
use Rattle.obq_wire.proofs.Exact.{IsBytes, Takes}
use Rattle.obq_wire.proofs.ExactPackets.{exact_packet}

-- what is read is spelled so, and has its fields in range
pub packet_takes : (bytes : List ℕ) (p : Packet) (rest : List ℕ) → IsBytes bytes → packet_at bytes ≡ Ok (p, rest) → Takes bytes (spelling p) rest × HasFields p
packet_takes = exact_packet.takes

pub whole_takes : (bytes : List ℕ) (p : Packet) → IsBytes bytes → packet_at bytes ≡ Ok (p, []) → misplaced p ≡ None → Spells bytes p
whole_takes bytes p fits e ordered =
    let t = exact_packet.takes bytes p [] fits e in
    record { bytes_are = t.0.parts ∙ append-nil (spelling p); can_be_sent = record { fields = t.1; table = ordered } }

pub spelled_again : (bytes : List ℕ) (p : Packet) → Spells bytes p → frame_at bytes ≡ Ok p
unfolding frame_at
spelled_again bytes p s =
    let read : packet_at (spelling p) ≡ Ok (p, []) = ap packet_at (sym (append-nil (spelling p))) ∙ exact_packet.again p [] s.can_be_sent.fields in
    rw (s.bytes_are, read, s.can_be_sent.table) refl

-- no bytes have two readings
pub one_reading : (bytes : List ℕ) (p q : Packet) → Spells bytes p → Spells bytes q → p ≡ q
one_reading bytes p q s t =
    let e : ok p ≡ ok q = sym (spelled_again bytes p s) ∙ spelled_again bytes q t in
    cc
  where
    ok : Packet → Result Packet ℕ
    ok x = Ok x

whole_ok : (bytes : List ℕ) (r : Result (Packet × List ℕ) ℕ) (p : Packet) → whole bytes r ≡ Ok p → (r ≡ Ok (p, [])) × (misplaced p ≡ None)
whole_ok bytes (Err left) p e = absurd cc
whole_ok bytes (Ok (q, b ∷ rest)) p e = absurd cc
whole_ok bytes (Ok (q, [])) p e = by (misplaced q) refl e
  where
    ok : Packet → Result (Packet × List ℕ) ℕ
    ok x = Ok (x, [])

    by : (o : Option ℕ) → misplaced q ≡ o → in_order q o ≡ Ok p → (ok q ≡ Ok (p, [])) × (misplaced p ≡ None)
    by (Some k) is e = absurd cc
    by None is e = let same : q ≡ p = cc in (ap ok same, subst (λ (x : Packet). misplaced x ≡ None) same is)

pub frame_found : (bytes : List ℕ) (p : Packet) → IsBytes bytes → frame_at bytes ≡ Ok p → Spells bytes p
unfolding frame_at
frame_found bytes p fits e =
    let w = whole_ok bytes (packet_at bytes) p e in
    whole_takes bytes p fits w.0 w.1

pub answer_found : (bytes : List ℕ) (r : Result Packet WireRefused) → IsBytes bytes → Answers r (frame_at bytes) → IfOk r (λ p. Spells bytes p)
answer_found bytes (Ok p) fits e = frame_found bytes p fits e
answer_found bytes (Err x) fits e = tt
