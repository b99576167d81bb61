-- Information and extended packets: their replies and the session afterwards (document 01, "The device").
use Rattle.std.specs.Prelude.{ℕ, Bool, true, false, cond, leb, eqb, Option, Some, None}
use Rattle.wire.specs.Codes.{info_start_entire_transaction, info_end_offer_list, notify_on_ready, offer_accept, offer_busy, offer_ready, offer_unsupported}
use Rattle.wire_offer.specs.Reply.{reply_bytes}
use Rattle.wire_offer.specs.declared.signal.Signal.{Signal}
use Rattle.device_session.specs.Stage.{is_open}
use Rattle.device_session.specs.Effect.{idle, owing, answered, silent}
use Rattle.device_session.specs.declared.effect.Session.{Session}
use Rattle.device_session.specs.declared.effect.Effect.{Effect}

-- one reply with this status, and no reason
abbrev pub plain_reply : (token status : ℕ) → Session → Effect
plain_reply token status session = answered (reply_bytes (record { token = token; reason = 0; status = status })) None session

-- codes 0 to 2 get ACCEPT, and code 0 makes the session idle and drops an owed reply; other codes are unsupported
unfoldable pub on_information : Session → Signal → Effect
on_information session s =
    cond (eqb s.code info_start_entire_transaction) (plain_reply s.token offer_accept idle)
    (cond (leb s.code info_end_offer_list) (plain_reply s.token offer_accept session)
    (plain_reply s.token offer_unsupported session))

-- notify on ready: READY when idle; else owed, with no reply now; BUSY if one is owed already
abbrev pub on_notify : Session → (token : ℕ) → Bool → Option ℕ → Effect
on_notify session token false o = plain_reply token offer_ready session
on_notify session token true None = silent (owing session (Some token))
on_notify session token true (Some t) = plain_reply token offer_busy session

unfoldable pub on_extended : Session → Signal → Effect
on_extended session s =
    cond (eqb s.code notify_on_ready) (on_notify session s.token (is_open session.stage) session.owed)
    (plain_reply s.token offer_unsupported session)
