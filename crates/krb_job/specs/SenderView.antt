-- What was read, as its definition sees it: each vector is its list.
use Rattle.std.specs.Prelude.{ℕ, List, map, option_map}
use Rattle.krb_etype.specs.Etype.{number_of}
use Rattle.krb_job.specs.declared.job.SenderJob.{SenderJob}
use Rattle.krb_job.specs.declared.parts.Protection.{Protection as ReadProtection}
use Rattle.krb_job.specs.declared.parts.Parties.{Parties as ReadParties}
use Rattle.krb_job.specs.SenderKeys.{Sender, Protection, Parties}

abbrev pub protection_view : ReadProtection → Protection
protection_view p =
    record { etype = number_of p.etype; key = p.key; mode = p.mode; first = p.first }

abbrev pub parties_view : ReadParties → Parties
parties_view p = record {
  from = p.from;
  to = p.to;
  write_to = p.write_to;
  require_to = p.require_to;
  expect_time = p.expect_time;
  skew = p.skew;
}

abbrev pub sender_view : SenderJob → Sender
sender_view s = record {
  protection = record { etype = number_of s.etype; key = s.key; mode = s.mode; first = s.first };
  parties = record {
    from = s.from;
    to = s.to;
    write_to = s.write_to;
    require_to = s.require_to;
    expect_time = s.expect_time;
    skew = s.skew;
  };
  traffic = record {
    seed = s.seed;
    ats = s.ats.items;
    nows = s.nows.items;
    texts = s.texts.items;
    batch = s.batch;
    plan = option_map (λ v. v.items) s.plan;
    frames = s.frames.items;
  };
}

-- the keys of senders
abbrev pub keys_of : List SenderJob → List (List ℕ)
keys_of senders = map (λ s. s.key) senders
