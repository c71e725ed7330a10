-- Frames of profile lines, and the plain numbers that stand for them.
use Rattle.std.specs.Prelude.{cond, ℕ, eqb, pos}
use Rattle.frames.specs.Answers.{Answer, gives, refuses, and_then, or_refuse}
use Rattle.frames.specs.declared.frame.Frame.{Frame}
use Rattle.frames.specs.declared.frame.Body.{Body}
use Rattle.frames.specs.declared.frame.Body.TheVariants.{ReqSlots, Slots, Token, Ack}
use Rattle.payloads.specs.declared.line.ProfileLine.{ProfileLine}
use Rattle.payloads.specs.Lines.{line_of}
use Rattle.frames_c.specs.declared.line_frame.LineFrame.{LineFrame}

-- The body that the numbers give: of a kind from 1 to 4, and with a line in range.
abbrev pub body_given : LineFrame → Answer (Body ProfileLine)
body_given x =
    cond (eqb x.kind 1) (gives (ReqSlots x.s x.n x.l))
    (cond (eqb x.kind 2) (gives (Slots x.s x.r x.n))
    (cond (eqb x.kind 3) (and_then (or_refuse (line_of x.place x.step) 20) (λ p. gives (Token x.s x.r p)))
    (cond (eqb x.kind 4) (gives (Ack x.s x.r)) (refuses 13))))

-- The frame that the numbers give.
abbrev pub given : LineFrame → Answer (Frame ProfileLine)
given x = and_then (body_given x) (λ b. gives (record { sender = x.sender; addressee = x.addressee; body = b }))

-- The numbers of a body on its way, with 0 for each field that its kind has not.
abbrev pub flat_body : ℕ → ℕ → Body ProfileLine → LineFrame
flat_body a b (ReqSlots s n l) = record { kind = 1; sender = a; addressee = b; s = s; r = 0; n = n; l = l; place = 0; step = pos 0 }
flat_body a b (Slots s r n) = record { kind = 2; sender = a; addressee = b; s = s; r = r; n = n; l = 0; place = 0; step = pos 0 }
flat_body a b (Token s r p) = record { kind = 3; sender = a; addressee = b; s = s; r = r; n = 0; l = 0; place = p.place; step = p.step }
flat_body a b (Ack s r) = record { kind = 4; sender = a; addressee = b; s = s; r = r; n = 0; l = 0; place = 0; step = pos 0 }

-- The numbers of a frame.
abbrev pub flat : Frame ProfileLine → LineFrame
flat f = flat_body f.sender f.addressee f.body
