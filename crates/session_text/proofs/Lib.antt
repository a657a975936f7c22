mod Digits
mod Names
mod Numbers
mod Pieces
mod Taken
mod Words
