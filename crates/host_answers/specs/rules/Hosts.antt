-- The host, what a turn may change in it, and its opening: 3, then 4, then 20.
use Rattle.std.specs.Prelude.{ℕ, ◌+◌, Bool, true, false, not, ◌&&◌, List, [], ◌∷◌, leb, eqb, length}
use Rattle.words.specs.rules.Bytes.{word_at}
use Rattle.words.specs.rules.Choice.{pick}
use Rattle.opcodes.specs.declared.Dialect.{Dialect}
use Rattle.opcodes.specs.declared.Dialect.TheVariants.{Am17xx}
use Rattle.opcodes.specs.rules.Refusals.{Verdict}
use Rattle.opcodes.specs.rules.Refusals.{None, Image, Magic, Tries}
use Rattle.flash_session.specs.rules.Opening.{good_length, magic}
use Rattle.sent.specs.declared.Bus.{Bus}
use Rattle.sent.specs.declared.Bus.TheVariants.{Bytes}
use Rattle.host_ear.specs.rules.Ear.{nothing_heard, hearing, looked_at}
use Rattle.host_ear.specs.declared.Ear.{Ear}
use Rattle.host_answers.specs.declared.Host.{Host}
use Rattle.host_answers.specs.declared.Opened.{Opened}
use Rattle.host_answers.specs.declared.Wait.{Wait}
use Rattle.host_answers.specs.declared.Wait.TheVariants.{Greeting}

-- all that a turn may change
abbrev pub changed : Host → Bool → ℕ → ℕ → ℕ → Wait → Ear → Host
changed h ended retries offset spent wait ear =
    record {
      bus = h.bus;
      dialect = h.dialect;
      length = h.length;
      tries = h.tries;
      pings = h.pings;
      limit = h.limit;
      ended = ended;
      retries = retries;
      offset = offset;
      spent = spent;
      stage = record { wait = wait };
      ear = ear;
    }

-- ended, all else as it was
abbrev pub stop : Host → Host
stop h = changed h true h.retries h.offset h.spent h.stage.wait h.ear

-- in a new wait: no try is spent, and nothing has been heard
abbrev pub waiting : Host → Wait → Host
waiting h wait = changed h h.ended h.retries h.offset 0 wait nothing_heard

-- at another offset
abbrev pub at : Host → ℕ → Host
at h offset = changed h h.ended h.retries offset h.spent h.stage.wait h.ear

-- with one retry more
abbrev pub retrying : Host → Host
retrying h = changed h h.ended (h.retries + 1) h.offset h.spent h.stage.wait h.ear

-- with one try more, what was heard looked at
abbrev pub trying : Host → Host
trying h = changed h h.ended h.retries h.offset (h.spent + 1) h.stage.wait (looked_at h.ear)

-- one byte is heard
unfoldable pub heard : Host → ℕ → Host
heard h byte = changed h h.ended h.retries h.offset h.spent h.stage.wait (hearing h.ear byte)

-- some bytes are, one after the other
unfoldable pub heard_all : Host → List ℕ → Host
heard_all h [] = h
heard_all h (byte ∷ bytes) = heard_all (heard h byte) bytes

-- a host at its first wait, or one that never opened
abbrev pub at_start : Bus → Dialect → ℕ → ℕ → ℕ → ℕ → Bool → Host
at_start bus dialect length tries limit pings ended =
    record {
      bus = bus;
      dialect = dialect;
      length = length;
      tries = tries;
      pings = pings;
      limit = limit;
      ended = ended;
      retries = 0;
      offset = 4;
      spent = 0;
      stage = record { wait = Greeting };
      ear = nothing_heard;
    }

-- a refused opening gives a host that has ended, of the line of bytes and an AM17xx, with no image, tries, pings or retries
abbrev pub refused_by : Verdict → Opened
refused_by q = record { refusal = q; host = at_start Bytes Am17xx 0 0 0 0 true }

-- the most tries that a wait allows
abbrev pub most_tries : ℕ
most_tries = 1000

-- the opening: a line, a dialect, an image, the tries of a wait, a retry limit and Ping's count
unfoldable pub opened_by : Bus → Dialect → List ℕ → ℕ → ℕ → ℕ → Opened
opened_by bus dialect image tries limit pings =
    pick (not (good_length (length image))) (refused_by Image)
    (pick (not (eqb (word_at image 0) magic)) (refused_by Magic)
    (pick (not (leb 1 tries && leb tries most_tries)) (refused_by Tries)
    (record { refusal = None; host = at_start bus dialect (length image) tries limit pings false })))
