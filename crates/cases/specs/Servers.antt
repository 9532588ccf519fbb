-- The two servers: each is a lock rule over a store.
use Rattle.std.specs.Prelude.{true, false}
use Rattle.scheduler.specs.Blockers.{Rule}
use Rattle.scheduler.specs.Rules.{deferred_updates, writers_pass_readers}
use Rattle.scheduler.specs.Steps.{Terms, terms}

pub record Server : Type 0 where
  pub rule : Rule
  pub terms : Terms

-- not private, room 512, share 512
abbrev pub in_place_server : Server
in_place_server = record { rule = writers_pass_readers; terms = terms false 512 512 }

-- private, room 512, share 64
abbrev pub private_server : Server
private_server = record { rule = deferred_updates; terms = terms true 512 64 }

abbrev pub Both : (Server → Type 0) → Type 0
Both P = P in_place_server × P private_server
