-- Files that are held of a request. The rules are this tool's own.
use Rattle.std.specs.Prelude.{◌≡◌, ℕ, ◌<◌, List, Option, Some, All}
use Rattle.play_words.specs.declared.requests.Request.{Request}
use Rattle.play_words.specs.declared.requests.Request.TheVariants as requests
use Rattle.tool_frame.specs.Files.{first_of, second_of}

-- a file is held
pub record IsHeld (held : Option (List ℕ)) : Type 0 where
  pub bytes : List ℕ
  pub there : held ≡ Some bytes

-- the board of a play is held, and so is what is played
pub record ArePlayFilesHeld (contents : List (Option (List ℕ))) : Type 0 where
  pub board : IsHeld (first_of contents)
  pub source : IsHeld (second_of contents)

-- The same, and what is played is read from bytes.
pub record AreCodeFilesHeld (contents : List (Option (List ℕ))) : Type 0 where
  pub board : IsHeld (first_of contents)
  pub source : IsHeld (second_of contents)
  pub are_bytes : All (λ b. b < 256) source.bytes

-- The files that a request names are held.
abbrev pub AreHeld : Request → List (Option (List ℕ)) → Type 0
AreHeld (requests.Play play) contents = ArePlayFilesHeld contents
AreHeld (requests.Run play) contents = AreCodeFilesHeld contents
AreHeld (requests.Check path) contents = IsHeld (first_of contents)
AreHeld (requests.List path) contents = IsHeld (first_of contents)
AreHeld (requests.Compile path) contents = IsHeld (first_of contents)
AreHeld (requests.Soak seed) contents = Unit {0}
