-- The signals of a watch are as a cable's must be: those that lead on can be joined.
use Rattle.std.proofs.Common.{List, [], ◌∷◌, ◌++◌, refl, subst, ◌∙◌}
use Rattle.std.specs.Prelude.{Option}
use Rattle.scan_paths.specs.Cables.{Signal, Pulses, Waits, Tunes}
use Rattle.dev_card.specs.declared.desc.Kind.{Kind}
use Rattle.dev_card.specs.Sound.{SoundCard}
use Rattle.quiet_watch.specs.declared.watch.Watch.{Watch}
use Rattle.quiet_watch.specs.Watches.{Watched, watch_step, WatchFollows}
use Rattle.quiet_watch.specs.WatchedDevices.{watched_of, HasFollowed}

pub follows_both : (xs ys : List Signal) (a b c : Watched) → WatchFollows a xs b → WatchFollows b ys c → WatchFollows a (xs ++ ys) c
follows_both [] ys a b c e q = subst (λ w. WatchFollows w ys c) e q
follows_both (Pulses k ∷ xs) ys a b c p q = (p.0, follows_both xs ys (watch_step a k.tms k.tdi) b c p.1 q)
follows_both (Waits n ∷ xs) ys a b c p q = follows_both xs ys a b c p q
follows_both (Tunes n ∷ xs) ys a b c p q = follows_both xs ys a b c p q

module _ {D : Type 0} (fitted : D → Option SoundCard) (kind_of : D → Kind) where
  pub followed_none : (w : Watch D) → HasFollowed fitted kind_of w [] w
  followed_none w = record { same = record { rack = refl; kinds = refl; places = refl }; follows = refl }

  pub followed_both : (a b c : Watch D) (front back : List Signal) → HasFollowed fitted kind_of a front b → HasFollowed fitted kind_of b back c →
      HasFollowed fitted kind_of a (front ++ back) c
  followed_both a b c front back p q = record {
    same = record { rack = q.same.rack ∙ p.same.rack; kinds = q.same.kinds ∙ p.same.kinds; places = q.same.places ∙ p.same.places };
    follows = follows_both front back (watched_of fitted kind_of a) (watched_of fitted kind_of b) (watched_of fitted kind_of c) p.follows q.follows;
  }
