mod PartsTaken
mod TakenIntegers
