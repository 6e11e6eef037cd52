mod Rising
mod Emptied
