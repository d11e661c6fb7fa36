pub mod LuckEnding
